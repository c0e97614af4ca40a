-- The run over the table is the theory's walk, at property numbers.
use Prim.Native.Nat.{ℕ, zero, suc, ◌+◌, ◌≤◌, ◌<◌}
use native.Mathlib.Omega.{arith}
use native.Mathlib.Nat.{zero-add}
use mathlib.Core.Path.{◌≡◌, refl, sym, ◌∙◌, ap, ap₂, subst}
use mathlib.Core.Bool.{true, false, ◌||◌, cond, or-false}
use mathlib.Core.List.{List, [], ◌∷◌, ◌++◌, map, map-append, map-map, append_assoc}
use mathlib.Core.Option
use lib.Dec.{ltb, leb-suc-suc}
use lib.ListN.{length, take, drop, get_or, length-append, length-map}
use lib.Seq.{split_at, length-take-le}
use borrow.Author.Tests.{lt-ltb, le-ltb, ltb-true, ltb-false}
use Rattle.base.specs.Bytes.{Bytes, same}
use Rattle.base.specs.Choice.{by-test, or_left, or_right}
use Rattle.base.specs.Entity.{Entity}
use Rattle.base.specs.Map.{entry, key_of, lookup, member}
use Rattle.base.proofs.Compare.{same_refl}
use Rattle.sheet.specs.Sheet.{Selector}
use Rattle.cascade.specs.Map.{DistinctKeys}
use Rattle.cascade.specs.Clause.{star, layer_name, clause}
use Rattle.cascade.specs.Match.{Verdict, verdict}
use Rattle.cascade.proofs.MatchLaws.{by-verdict}
use Rattle.cascade.specs.Cascade.{Hit, Layers, ensure, touch, step}
use Rattle.cascade.specs.Numbered.{spelled}
use Rattle.cascade.proofs.NumberedLaws.{assigns_spelled}
use Rattle.cascade.specs.Rust.{update_entry, update_layer}
use Rattle.cascade.proofs.RustProof.{one_layer, touch_star, ensure_distinct}
use Rattle.cascade.specs.Walk.{Answer, refused, layers, crowded, admit, continue, walk}
use Rattle.cascade.proofs.WalkLaws.{walk_append}
use Rattle.decode.specs.Decode.{places}
use Rattle.walk.specs.Rows.{assigns}
use Rattle.walk.specs.Run.{Run, stop, going, bind, assign_at, assign_all, seek, touch_of, step_of, hit_of, selectors_of}
use Rattle.maps.proofs.Book.{Row, row, Book, no_row, encode, Slim, spell_row, spell, gives, Fine, Means, stops, goes, layer_place}
use Rattle.maps.proofs.Encode.{slim_left, slim_right, slim_both, slim_each, assign_row, seek_place, new_row_lem}

module _ (name layer : ℕ → Bytes) where
  -- ---- finding

  place_member : (l : Bytes) (b : Book) → member l (map key_of (spell name layer b)) ≡ ltb (layer_place layer l b) (length b)
  unfolding member layer_place
  place_member l [] = refl
  place_member l (x ∷ b) =
      by-test (same l (layer x.head))
      (λ p. rw p (sym (lt-ltb 0 (suc (length b)) (omega arith))))
      (λ p. rw p (place_member l b ∙ sym (leb-suc-suc (suc (layer_place layer l b)) (length b))))

  inherited_numbers :
      (l : Bytes) (b : Book)
      → Option.get_or (lookup l (spell name layer b)) [] ≡ map (spelled name) (get_or b (layer_place layer l b) no_row).numbers
  unfolding lookup layer_place
  inherited_numbers l [] = refl
  inherited_numbers l (x ∷ b) = by-test (same l (layer x.head)) (λ p. rw p) (λ p. rw p (inherited_numbers l b))

  abbrev made : Book → ℕ → Book
  made b s = b ++ (row s (get_or b (layer_place layer star b) no_row).numbers ∷ [])

  ensure_found : (l : Bytes) (b : Book) → layer_place layer l b < length b → ensure (spell name layer b) l ≡ spell name layer b
  unfolding ensure
  ensure_found l b h = rw (place_member l b, lt-ltb (layer_place layer l b) (length b) h)

  ensure_made :
      (s : ℕ) (b : Book)
      → length b ≤ layer_place layer (layer s) b
      → ensure (spell name layer b) (layer s) ≡ spell name layer (made b s)
  unfolding ensure
  ensure_made s b h =
      rw (place_member (layer s) b, le-ltb (layer_place layer (layer s) b) (length b) h, inherited_numbers star b)
      (sym (map-append (spell_row name layer) b (row s (get_or b (layer_place layer star b) no_row).numbers ∷ [])))

  place_made :
      (l : Bytes) (b : Book) (y : Row)
      → length b ≤ layer_place layer l b
      → same l (layer y.head) ≡ true
      → layer_place layer l (b ++ (y ∷ [])) ≡ length b
  unfolding layer_place
  place_made l [] y h e = rw e
  place_made l (x ∷ b) y h e =
      by-test (same l (layer x.head))
      (λ p. absurd (bad (rw p at h)))
      (λ p. rw p (ap suc (place_made l b y (less (rw p at h)) e)))
    where
      bad : suc (length b) ≤ 0 → ⊥
      bad q = omega arith

      less : suc (length b) ≤ suc (layer_place layer l b) → length b ≤ layer_place layer l b
      less q = omega arith

  -- ---- the bound on names

  crowded_slim : (b : Book) → crowded (spell name layer b) ≡ false → Slim b
  unfolding crowded Slim
  crowded_slim [] e = tt
  crowded_slim (x ∷ b) e =
      let f : (ltb 128 (length x.numbers) || crowded (spell name layer b)) ≡ false = rw (length-map x.numbers (spelled name)) at e in
      let n = length x.numbers in
      let rest = crowded (spell name layer b) in
      (ltb-false 128 n (or_left (ltb 128 n) rest f), crowded_slim b (or_right (ltb 128 n) rest f))

  slim_crowded : (b : Book) → Slim b → crowded (spell name layer b) ≡ false
  unfolding crowded Slim
  slim_crowded [] s = refl
  slim_crowded (x ∷ b) s = rw (length-map x.numbers (spelled name), le-ltb 128 (length x.numbers) s.0, slim_crowded b s.1)

  crowded_one :
      (xs : Book) (y : Row) (ys : Book)
      → Slim xs
      → Slim ys
      → crowded (spell name layer (xs ++ (y ∷ ys))) ≡ ltb 128 (length y.numbers)
  unfolding crowded Slim
  crowded_one [] y ys s r = rw (length-map y.numbers (spelled name), slim_crowded ys r) (or-false (ltb 128 (length y.numbers)))
  crowded_one (x ∷ xs) y ys s r =
      rw (length-map x.numbers (spelled name), le-ltb 128 (length x.numbers) s.0, crowded_one xs y ys s.1 r)

  -- ---- assigning

  -- row j alone takes the properties
  abbrev changed : List ℕ → ℕ → Book → Book
  changed ps j b = take j b ++ (gives name ps (get_or b j no_row) ∷ drop (suc j) b)

  module _ (ps : List ℕ) where
    all_given : (b : Book) → map (update_entry (map (spelled name) ps)) (spell name layer b) ≡ spell name layer (map (gives name ps) b)
    all_given [] = refl
    all_given (x ∷ b) = ap₂ (λ v r. entry (layer x.head) v ∷ r) (sym (assigns_spelled name x.numbers ps)) (all_given b)

    one_given :
        (l : Bytes) (b : Book)
        → layer_place layer l b < length b
        → update_layer l (map (spelled name) ps) (spell name layer b) ≡ spell name layer (changed ps (layer_place layer l b) b)
    unfolding update_layer layer_place
    one_given l [] h = absurd (omega arith)
    one_given l (x ∷ b) h =
        by-test (same l (layer x.head))
        (λ p. rw p (ap (λ v. entry (layer x.head) v ∷ spell name layer b) (sym (assigns_spelled name x.numbers ps))))
        (λ p. rw p (ap (λ r. spell_row name layer x ∷ r) (one_given l b (less (rw p at h)))))
      where
        less : suc (layer_place layer l b) < suc (length b) → layer_place layer l b < length b
        less q = omega arith

    all_rows :
        (m : ℕ) (xs ys : Book)
        → Slim (xs ++ ys)
        → assign_all name (encode (xs ++ ys)) m (length xs) (length ys) ps ≡ cond
        (crowded (spell name layer (map (gives name ps) ys))) (stop 24)
        (going m (encode (xs ++ map (gives name ps) ys)))
    unfolding assign_all crowded bind Slim
    all_rows m xs [] s = refl
    all_rows m xs (y ∷ ys) s =
        rw (assign_row xs y ys s name m ps, length-map (assigns name y.numbers ps) (spelled name))
        (by-test (ltb (length (assigns name y.numbers ps)) 129)
        (λ p.
        let g = gives name ps y in
        let e = append_assoc xs (g ∷ []) ys in
        let f = append_assoc xs (g ∷ []) (map (gives name ps) ys) in
        let l = ltb-true (length (assigns name y.numbers ps)) 129 p in
        let r = all_rows m (xs ++ (g ∷ [])) ys (subst Slim (sym e) (still l)) in
        rw (p, le-ltb 128 (length (assigns name y.numbers ps)) (omega arith))
        (ap₂ (λ z i. assign_all name (encode z) m i (length ys) ps) (sym e) (sym (length-append xs (g ∷ [])))
        ∙ r
        ∙ ap (λ z. cond (crowded (spell name layer (map (gives name ps) ys))) (stop 24) (going m (encode z))) f))
        (λ p.
        let l = ltb-false (length (assigns name y.numbers ps)) 129 p in
        rw (p, lt-ltb 128 (length (assigns name y.numbers ps)) (omega arith))))
      where
        still : length (assigns name y.numbers ps) < 129 → Slim (xs ++ (gives name ps y ∷ ys))
        still l = slim_both xs (gives name ps y ∷ ys) (slim_left xs (y ∷ ys) s) (omega arith, (slim_right xs (y ∷ ys) s).1)

  means_is : (r q : Run) (a c : Answer ℕ) → r ≡ q → a ≡ c → Means name layer q c → Means name layer r a
  means_is r q a c e f m = subst (λ x. Means name layer x a) (sym e) (subst (Means name layer q) (sym f) m)

  touched :
      (b c : Book) (m : Layers ℕ) (r : Run)
      → length b ≤ 32
      → length c ≡ length b
      → m ≡ spell name layer c
      → DistinctKeys m
      → r ≡ cond (crowded m) (stop 24) (going (length b) (encode c))
      → Means name layer r (cond (crowded m) (refused 24) (layers m))
  touched b c m r few l e d q =
      by-test (crowded m)
      (λ p. means_is r (stop 24) (cond (crowded m) (refused 24) (layers m)) (refused 24) (q ∙ (rw p)) (rw p) (stops 24))
      (λ p.
      means_is r (going (length c) (encode c)) (cond (crowded m) (refused 24) (layers m)) (layers (spell name layer c))
      (q ∙ (rw (p, l)))
      (rw p (ap layers e))
      (goes c (record { few = omega arith; thin = crowded_slim c (ap crowded (sym e) ∙ p); apart = subst DistinctKeys e d })))

  module _ (s : ℕ) (ps : List ℕ) where
    abbrev hit : Hit ℕ
    hit = record { layer = layer s; properties = map (spelled name) ps }

    keys_kept : (m : Layers ℕ) → DistinctKeys m → DistinctKeys (map (touch hit) m)
    keys_kept m d = rw map-map d

    means_touch :
        (b : Book) (j : ℕ)
        → length b ≤ 32
        → Slim b
        → DistinctKeys (spell name layer b)
        → j ≡ layer_place layer (layer s) b
        → j < length b
        → Means name layer (touch_of name layer (encode b) (length b) j s ps)
        (cond (crowded (map (touch hit) (spell name layer b))) (refused 24)
        (layers (map (touch hit) (spell name layer b))))
    unfolding touch_of Slim
    means_touch b j few thin d e h =
        by-test (same star (layer s))
        (λ p.
        let t = touch_star hit (spell name layer b) p ∙ all_given ps b in
        touched b (map (gives name ps) b) (map (touch hit) (spell name layer b)) _ few (length-map b (gives name ps)) t
        (keys_kept (spell name layer b) d)
        (rw (p, t) (all_rows ps (length b) [] b thin)))
        (λ p.
        let t : map (touch hit) (spell name layer b) ≡ spell name layer (changed ps j b) =
        rw e
        (sym (one_layer hit (spell name layer b) p d) ∙ one_given ps (layer s) b (subst (λ k. k < length b) e h))
        in
        touched b (changed ps j b) (map (touch hit) (spell name layer b)) _ few size t (keys_kept (spell name layer b) d)
        (rw (p, t) run))
      where
        whole : b ≡ take j b ++ (get_or b j no_row ∷ drop (suc j) b)
        whole = split_at b j no_row h

        front : length (take j b) ≡ j
        front = length-take-le j b (omega arith)

        size : length (changed ps j b) ≡ length b
        size =
            omega (
              arith,
              length-append (take j b) (gives name ps (get_or b j no_row) ∷ drop (suc j) b),
              length-append (take j b) (get_or b j no_row ∷ drop (suc j) b),
              ap length whole,
            )

        parts : Slim (take j b ++ (get_or b j no_row ∷ drop (suc j) b))
        parts = subst Slim whole thin

        tail : Slim (drop (suc j) b)
        tail = (slim_right (take j b) (get_or b j no_row ∷ drop (suc j) b) parts).1

        n : ℕ
        n = length (assigns name (get_or b j no_row).numbers ps)

        other :
            cond (ltb n 129) (going (length b) (encode (changed ps j b))) (stop 24)
            ≡ cond (ltb 128 n) (stop 24) (going (length b) (encode (changed ps j b)))
        other =
            by-test (ltb n 129)
            (λ p. let l = ltb-true n 129 p in rw (p, le-ltb 128 n (omega arith)))
            (λ p. let l = ltb-false n 129 p in rw (p, lt-ltb 128 n (omega arith)))

        run :
            assign_at name (encode b) (length b) j ps
            ≡ cond (crowded (spell name layer (changed ps j b))) (stop 24) (going (length b) (encode (changed ps j b)))
        run =
            ap₂ (λ z i. assign_at name (encode z) (length b) i ps) whole (sym front)
            ∙ assign_row (take j b) (get_or b j no_row) (drop (suc j) b) parts name (length b) ps
            ∙ other
            ∙ ap (λ t. cond t (stop 24) (going (length b) (encode (changed ps j b))))
            (sym
            (crowded_one (take j b) (gives name ps (get_or b j no_row)) (drop (suc j) b)
            (slim_left (take j b) (get_or b j no_row ∷ drop (suc j) b) parts) tail))

    -- a selector that matched
    pub means_step :
        (b : Book)
        → Fine name layer b
        → Means name layer (step_of name layer (encode b) (length b) s ps)
        (admit (step (spell name layer b) hit) (layers (step (spell name layer b) hit)))
    unfolding step_of step Slim
    means_step b f =
        rw e
        (by-test (ltb (layer_place layer (layer s) b) (length b))
        (λ p.
        let h = ltb-true (layer_place layer (layer s) b) (length b) p in
        rw (
          p,
          ensure_found (layer s) b h,
          length-map (spell name layer b) (touch hit),
          length-map b (spell_row name layer),
          le-ltb 32 (length b) f.few,
        )
        (means_touch b (layer_place layer (layer s) b) f.few f.thin f.apart refl h))
        (λ p.
        let h = ltb-false (layer_place layer (layer s) b) (length b) p in
        rw (p, ensure_made s b h, length-map (spell name layer (made b s)) (touch hit), length-map (made b s) (spell_row name layer), size)
        (by-test (ltb (length b) 32)
        (λ q.
        let g = ltb-true (length b) 32 q in
        rw (q, le-ltb 32 (length b + 1) (omega arith), new_row_lem b f.thin f.few layer s, ← size)
        (means_touch (made b s) (length b) (omega (arith, size)) thin'
        (subst DistinctKeys (ensure_made s b h) (ensure_distinct (spell name layer b) (layer s) f.apart))
        (sym (place_made (layer s) b (row s (get_or b (layer_place layer star b) no_row).numbers) h (same_refl (layer s))))
        (omega (arith, size))))
        (λ q.
        let g = ltb-false (length b) 32 q in
        rw (q, lt-ltb 32 (length b + 1) (omega arith)) (stops 23)))))
      where
        e : seek layer (encode b) (layer s) 0 (length b) ≡ layer_place layer (layer s) b
        e = seek_place layer (layer s) [] b f.thin ∙ zero-add (layer_place layer (layer s) b)

        size : length (made b s) ≡ length b + 1
        size = length-append b (row s (get_or b (layer_place layer star b) no_row).numbers ∷ [])

        thin' : Slim (made b s)
        thin' =
            slim_both b
            (row s (get_or b (layer_place layer star b) no_row).numbers ∷ []) f.thin
            (slim_each b f.thin (layer_place layer star b), tt)

  pub means_bind :
      (f : ℕ → List ℕ → Run) (g : Layers ℕ → Answer ℕ) (r : Run) (a : Answer ℕ)
      → Means name layer r a
      → ((b : Book) → Fine name layer b → Means name layer (f (length b) (encode b)) (g (spell name layer b)))
      → Means name layer (bind r f) (continue a g)
  unfolding bind
  means_bind f g r a (stops k) h = stops k
  means_bind f g r a (goes b p) h = h b p

-- one rule's selectors, by their numbers
module _ (name : ℕ → Bytes) (selector : ℕ → Selector) (z : ℕ) (e : Entity) where
  abbrev layer : ℕ → Bytes
  layer s = layer_name (selector s)

  abbrev verdict_of : ℕ → Verdict
  verdict_of s = verdict z e (selector s)

  means_hit :
      (s : ℕ) (ps : List ℕ) (b : Book)
      → Fine name layer b
      → Means name layer (hit_of name layer verdict_of (encode b) (length b) s ps)
      (walk z e (spell name layer b) (clause (map (spelled name) ps) (selector s) ∷ []))
  unfolding hit_of walk
  means_hit s ps b f =
      by-verdict (verdict z e (selector s))
      (λ v. rw v (means_step name layer s ps b f))
      (λ v. rw v (goes b f))
      (λ v. rw v (stops 8))

  pub means_selectors :
      (k s : ℕ) (ps : List ℕ) (b : Book)
      → Fine name layer b
      → Means name layer
      (selectors_of name layer verdict_of (encode b) (length b) s k ps)
      (walk z e (spell name layer b) (map (clause (map (spelled name) ps)) (map selector (places s k))))
  unfolding selectors_of places walk
  means_selectors zero s ps b f = goes b f
  means_selectors (suc k) s ps b f =
      subst
      (Means name layer
      (bind (hit_of name layer verdict_of (encode b) (length b) s ps)
      (λ n t. selectors_of name layer verdict_of t n (s + 1) k ps)))
      (sym
      (walk_append z e (spell name layer b) (clause (map (spelled name) ps) (selector s) ∷ [])
      (map (clause (map (spelled name) ps)) (map selector (places (s + 1) k)))))
      (means_bind name layer _ _ _ _ (means_hit s ps b f) (λ c g. means_selectors k (s + 1) ps c g))
