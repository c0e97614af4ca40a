-- Token lists are accepted exactly if the grammar has them.
use Rattle.std.specs.Prelude.{ℕ, suc, ◌≤◌, ◌<◌, ◌≡◌, Bool, true, not, ◌&&◌, length, Float}
use Rattle.std.proofs.Common.{arith, sym, ◌∙◌, ap, subst}
use Rattle.std.proofs.lemmas.Bool.{not-true}
use Rattle.std.proofs.lemmas.List.{append-nil}
use Rattle.std.proofs.Math.Path.{refl}
use mathlib.Core.List.{List, [], ◌∷◌, ◌++◌}
use Rattle.std.proofs.Math.Option.{some}
use Rattle.base.specs.Map.{lookup}
use Rattle.base.specs.Bytes.{Bytes, same}
use Rattle.base.specs.Choice.{by-test, clash, and_left, and_right, different}
use Rattle.grammar.specs.Token.{Token}
use Rattle.grammar.specs.Reading.{Reading}
use Rattle.grammar.specs.Input.{Entry, Reason, Input, token, end, Answer, refused, read}
use Rattle.grammar.specs.Entries.{entries_of, tint}
use Rattle.grammar.specs.Capacity.{Tables, empty, add, add_all, tables_of, endless}
use Rattle.grammar.specs.Stream.{Gives, here, ◌▸◌, WholeTo, Whole}
use Rattle.grammar.proofs.Laws.{Puts, kept, ◌◂◌}
use Rattle.grammar.proofs.Sound.{load_sound}
use Rattle.grammar.proofs.Complete.{load_complete}
use Rattle.grammar.proofs.CapacityLaws.{add_tints}
use Rattle.grammar.proofs.AcceptedProof.{retold}
use Rattle.grammar.specs.Texts.{Bundle, Place, Cursor, cursor, next_from, text_named, listed, read_bundle, HasReading, was_read, accepts, HasAll, HasNone}

module _ (countable : Float → Bool) (b : Bundle) where
  abbrev i : Input Cursor Tables Place (Reason × Place)
  i = listed countable b endless

  -- ---- a list gives itself

  all_given : (k n : ℕ) (p : List Token) → (m : ℕ) × Gives i (cursor k n p) p (cursor k m [])
  all_given k n [] = (n, here)
  all_given k n (t ∷ p) = let h = all_given k (suc (suc n)) p in (h.0, refl ▸ h.1)

  whole : (k n : ℕ) (p : List Token) → Whole i (cursor k n p) p
  whole k n p = let h = all_given k n p in (_, (_, (h.1, refl)))

  given_cons :
      (k n : ℕ) (s : List Token) (d : Cursor) (o : Place) (t : Token)
      → next_from {R = Reason × Place} k n s ≡ token t o d
      → s ≡ t ∷ d.left
  given_cons k n [] d o t e = different cc
  given_cons k n (x ∷ s) d o t e =
      let p : x ≡ t = cc in
      let q : cursor k (suc (suc n)) s ≡ d = cc in
      rw p (ap (λ d. t ∷ d.left) q)

  given_end : (k n : ℕ) (s : List Token) (f : Cursor) → next_from {R = Reason × Place} k n s ≡ end f → s ≡ []
  given_end k n [] f e = refl
  given_end k n (x ∷ s) f e = different cc

  given_is : {c d : Cursor} {p : List Token} → Gives i c p d → c.left ≡ p ++ d.left
  given_is here = refl
  given_is (◌▸◌ {c = c} {d = d} {o = o} {t = t} e g) = given_cons c.text c.character c.left d o t e ∙ ap (λ v. t ∷ v) (given_is g)

  whole_is : (c f : Cursor) (p : List Token) → WholeTo i c p f → c.left ≡ p
  whole_is c f p w =
      given_is w.1.0
      ∙ ap (λ u. p ++ u) (given_end w.0.text w.0.character w.0.left f w.1.1)
      ∙ append-nil p

  long_enough : (c d : Cursor) (p : List Token) → Gives i c p d → length p < suc (length c.left)
  long_enough c d p g = rw (given_is g) (let h = fits p d.left in omega (arith, h))
    where
      fits : (p u : List Token) → length p ≤ length (p ++ u)
      fits [] u = omega arith
      fits (t ∷ p) u = let h = fits p u in omega arith

  -- ---- the texts of the bundle

  named_is : (k : ℕ) (n : Bytes) (e : Bundle) (c : Cursor) → text_named k n e ≡ some c → lookup n e ≡ some c.left
  unfolding text_named lookup
  named_is k n [] c q = different cc
  named_is k n (t ∷ e) c q = by-test (same n t.key)
      (λ p. let r : some (cursor k 0 t.value) ≡ some c = rw p at q in
      let u : cursor k 0 t.value ≡ c = cc in
      rw p (ap (λ c. some c.left) u))
      (λ p. rw p (named_is (suc k) n e c (rw p at q)))

  is_named : (k : ℕ) (n : Bytes) (e : Bundle) (q : List Token) → lookup n e ≡ some q → (m : ℕ) × (text_named k n e ≡ some (cursor m 0 q))
  unfolding text_named lookup
  is_named k n [] q h = different cc
  is_named k n (t ∷ e) q h = by-test (same n t.key)
      (λ p. let r : some t.value ≡ some q = rw p at h in
      let u : t.value ≡ q = cc in
      (k, rw p (ap (λ q. some (cursor k 0 q)) u)))
      (λ p. let r = is_named (suc k) n e q (rw p at h) in (r.0, rw p r.1))

  -- ---- endless tables take everything

  tinted : (e : Entry) (τ υ : Tables) → some (add τ e) ≡ some υ → υ.colors ≡ tint τ.colors e
  tinted e τ υ m = let p : add τ e ≡ υ = cc in ap (λ υ. υ.colors) (sym p) ∙ add_tints e τ

  all_put : (es : List Entry) (τ : Tables) → Puts i τ es (add_all τ es)
  unfolding add_all
  all_put [] τ = kept
  all_put (e ∷ es) τ = refl ◂ all_put es (add τ e)

  -- ---- accepted exactly the grammar's

  pub sound :
      (p : List Token) (js : Reading) (f : Cursor) (υ : Tables)
      → read_bundle countable b p ≡ read js f υ
      → HasReading countable b p js
  sound p js f υ e =
      let h = load_sound i tinted (cursor 0 0 p) empty js f υ e in
      let q : p ≡ h.0 = whole_is (cursor 0 0 p) f h.0 h.1.0 in
      subst
      (λ q. HasReading countable b q js)
      (sym q)
      (retold
      (λ n q x. named_is 1 n b x.0 x.1.0 ∙ ap some (whole_is x.0 x.1.1.0 q x.1.1.1))
      h.1.1.1)

  pub complete :
      (p : List Token) (js : Reading)
      → HasReading countable b p js
      → (f : Cursor) × (read_bundle countable b p ≡ read js f (tables_of js))
  complete p js d =
      let w = whole 0 0 p in (
        w.0,
        load_complete i tinted long_enough (cursor 0 0 p) w.0 empty (tables_of js) w.1
            (all_put (entries_of js) empty)
            (retold (λ n q x. let h = is_named 1 n b q x in (cursor h.0 0 q, (h.1, whole h.0 0 q))) d),
      )

module _ (countable : Float → Bool) where
  is_read : {A C T R : Type 0} (a : Answer A C T R) → was_read countable a ≡ true → (x : A) × ((c : C) × ((τ : T) × (a ≡ read x c τ)))
  is_read (refused r τ) e = clash e refl
  is_read (read x c τ) e = (x, (c, (τ, refl)))

  abbrev pub accepts_all : List (List Token) → Bool
  accepts_all [] = true
  accepts_all (p ∷ ps) = accepts countable p && accepts_all ps

  abbrev pub accepts_none : List (List Token) → Bool
  accepts_none [] = true
  accepts_none (p ∷ ps) = not (accepts countable p) && accepts_none ps

  pub has_all : (ps : List (List Token)) → accepts_all ps ≡ true → HasAll countable ps
  has_all [] e = tt
  has_all (p ∷ ps) e =
      let h = is_read (read_bundle countable [] p) (and_left (accepts countable p) (accepts_all ps) e) in (
        (h.0, sound countable [] p h.0 h.1.0 h.1.1.0 h.1.1.1),
        has_all ps (and_right (accepts countable p) (accepts_all ps) e),
      )

  pub has_none : (ps : List (List Token)) → accepts_none ps ≡ true → HasNone countable ps
  has_none [] e = tt
  has_none (p ∷ ps) e = (
    λ js d.
        clash (ap (was_read countable) (complete countable [] p js d).1)
        (not-true (accepts countable p) (and_left (not (accepts countable p)) (accepts_none ps) e)),
    has_none ps (and_right (not (accepts countable p)) (accepts_none ps) e),
  )
