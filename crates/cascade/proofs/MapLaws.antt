-- Laws of ordered maps: lookups, names, kept parts and changed values.
use Rattle.std.specs.Prelude.{◌≡◌, Bool, true, false, ◌||◌, cond}
use Rattle.std.proofs.Math.Path.{refl}
use Rattle.std.proofs.Common.{sym, ◌∙◌, ap, ap₂}
use Rattle.std.proofs.Math.Bool.{or-false, or_assoc}
use mathlib.Core.List.{List, [], ◌∷◌, ◌++◌, foldl-append, map, Memᴰ}
use Rattle.std.proofs.Math.Option.{Option, none, some}
use Rattle.base.specs.Bytes.{Bytes, same}
use Rattle.base.specs.Choice.{by-test, clash, or_left, or_right}
use Rattle.base.specs.Map.{Entry, Map, entry, key_of, lookup, member}
use Rattle.base.proofs.Compare.{same_refl, same_true, same_sym}
use Rattle.cascade.specs.Map.{insert, overlay, add, firsts, newer, last_of, keep, map_option, map_entry, Distinct}

pub by_option : {A B : Type 0} (o : Option A) → (o ≡ none → B) → ((x : A) → o ≡ some x → B) → B
by_option none f g = f refl
by_option (some x) f g = g x refl

module _ {A : Type 0} where
  pub lookup_insert : (k : Bytes) (m : Map A) (a : Entry A) → lookup k (insert m a) ≡ newer k (lookup k m) a
  unfolding insert lookup
  lookup_insert k [] a = refl
  lookup_insert k (e ∷ m) a =
      by-test (same a.key e.key)
      (λ p.
      by-test (same k e.key)
      (λ q. rw (p, q, newer, same_true a.key e.key p, q))
      (λ q. rw (p, q, newer, same_true a.key e.key p, q)))
      (λ p.
      by-test (same k e.key)
      (λ q. rw (p, q, newer, same_true k e.key q, same_sym e.key a.key, p))
      (λ q. rw (p, q, lookup_insert k m a)))

  -- the value of a name is the last assigned
  pub lookup_overlay : (k : Bytes) (m : Map A) (bs : List (Entry A)) → lookup k (overlay m bs) ≡ last_of k (lookup k m) bs
  lookup_overlay k m [] = refl
  lookup_overlay k m (a ∷ bs) = lookup_overlay k (insert m a) bs ∙ ap (λ o. last_of k o bs) (lookup_insert k m a)

  -- the order of names is that of their first assignment
  pub keys_insert : (m : Map A) (a : Entry A) → map key_of (insert m a) ≡ add (map key_of m) a.key
  unfolding insert add member
  keys_insert [] a = refl
  keys_insert (e ∷ m) a =
      by-test (same a.key e.key)
      (λ p. rw p refl)
      (λ p.
      by-test (member a.key (map key_of m))
      (λ q. rw (p, keys_insert m a, add, q))
      (λ q. rw (p, keys_insert m a, add, q)))

  pub keys_overlay : (m : Map A) (bs : List (Entry A)) → map key_of (overlay m bs) ≡ firsts (map key_of m) (map key_of bs)
  keys_overlay m [] = refl
  keys_overlay m (a ∷ bs) = keys_overlay (insert m a) bs ∙ ap (λ ks. firsts ks (map key_of bs)) (keys_insert m a)

-- an entry for each name of a list
pub lookup_tabulate :
    {A : Type 0} (g : Bytes → A) (k : Bytes) (ks : List Bytes)
    → lookup k (map (λ x. entry x (g x)) ks) ≡ cond (member k ks) (some (g k)) none
unfolding lookup member
lookup_tabulate g k [] = refl
lookup_tabulate g k (x ∷ ks) = by-test (same k x) (λ p. rw (p, same_true k x p)) (λ p. rw (p, lookup_tabulate g k ks))

pub member_append : (k : Bytes) (xs ys : List Bytes) → member k (xs ++ ys) ≡ (member k xs || member k ys)
unfolding member
member_append k [] ys = refl
member_append k (x ∷ xs) ys = by-test (same k x) (λ p. rw p) (λ p. rw (p, member_append k xs ys))

pub member_add : (k : Bytes) (ks : List Bytes) (x : Bytes) → member k (add ks x) ≡ (member k ks || same k x)
unfolding add member
member_add k ks x =
    by-test (member x ks)
    (λ p. by-test (same k x) (λ q. rw (p, q, same_true k x q, p)) (λ q. rw (p, q, or-false)))
    (λ p. rw (p, member_append k ks (x ∷ []), or-false))

pub member_firsts : (k : Bytes) (ks xs : List Bytes) → member k (firsts ks xs) ≡ (member k ks || member k xs)
unfolding member
member_firsts k ks [] = sym (or-false (member k ks))
member_firsts k ks (x ∷ xs) = member_firsts k (add ks x) xs ∙ (rw (member_add k ks x, or_assoc))

module _ {A : Type 0} where
  pub keep_append : (p : A → Bool) (xs ys : List A) → keep p (xs ++ ys) ≡ keep p xs ++ keep p ys
  unfolding keep
  keep_append p [] ys = refl
  keep_append p (x ∷ xs) ys = by-test (p x) (λ e. rw (e, keep_append p xs ys)) (λ e. rw (e, keep_append p xs ys))

  pub keep_comm : (p q : A → Bool) (xs : List A) → keep p (keep q xs) ≡ keep q (keep p xs)
  unfolding keep
  keep_comm p q [] = refl
  keep_comm p q (x ∷ xs) =
      by-test (p x)
      (λ e. by-test (q x) (λ f. simp (e, f, keep_comm p q xs)) (λ f. simp (e, f, keep_comm p q xs)))
      (λ e. by-test (q x) (λ f. simp (e, f, keep_comm p q xs)) (λ f. simp (e, f, keep_comm p q xs)))

module _ {A B : Type 0} where
  pub keep_map : (p : B → Bool) (f : A → B) (xs : List A) → keep p (map f xs) ≡ map f (keep (λ x. p (f x)) xs)
  unfolding keep
  keep_map p f [] = refl
  keep_map p f (x ∷ xs) = by-test (p (f x)) (λ e. rw (e, keep_map p f xs)) (λ e. rw (e, keep_map p f xs))

module _ {A B : Type 0} where
  pub lookup_map : (k : Bytes) (f : A → B) (m : Map A) → lookup k (map (map_entry f) m) ≡ map_option f (lookup k m)
  unfolding lookup
  lookup_map k f [] = refl
  lookup_map k f (e ∷ m) = by-test (same k e.key) (λ p. rw p) (λ p. rw (p, lookup_map k f m))

  pub keys_map : (f : A → B) (m : Map A) → map key_of (map (map_entry f) m) ≡ map key_of m
  keys_map f [] = refl
  keys_map f (e ∷ m) = ap (λ r. e.key ∷ r) (keys_map f m)

  pub insert_map : (f : A → B) (m : Map A) (a : Entry A) → map (map_entry f) (insert m a) ≡ insert (map (map_entry f) m) (map_entry f a)
  unfolding insert
  insert_map f [] a = refl
  insert_map f (e ∷ m) a = by-test (same a.key e.key) (λ p. rw p) (λ p. rw (p, insert_map f m a))

  pub overlay_map :
      (f : A → B) (m : Map A) (bs : List (Entry A))
      → map (map_entry f) (overlay m bs) ≡ overlay (map (map_entry f) m) (map (map_entry f) bs)
  overlay_map f m [] = refl
  overlay_map f m (b ∷ bs) = overlay_map f (insert m b) bs ∙ ap (λ x. overlay x (map (map_entry f) bs)) (insert_map f m b)

pub distinct_snoc : (ks : List Bytes) (k : Bytes) → Distinct ks → member k ks ≡ false → Distinct (ks ++ (k ∷ []))
unfolding member
distinct_snoc [] k d e = (refl, tt)
distinct_snoc (x ∷ ks) k d e = (
  rw (member_append x ks (k ∷ []), d.0, same_sym x k, or_left (same k x) (member k ks) e),
  distinct_snoc ks k d.1 (or_right (same k x) (member k ks) e),
)

-- the test of membership is membership
pub member_mem : (k : Bytes) (ks : List Bytes) → member k ks ≡ true → Memᴰ k ks
unfolding member
member_mem k [] e = clash e refl
member_mem k (x ∷ ks) e = by-test (same k x) (λ p. Memᴰ.head (same_true k x p)) (λ p. Memᴰ.tail (member_mem k ks (rw p at e)))

pub mem_member : (k : Bytes) (ks : List Bytes) → Memᴰ k ks → member k ks ≡ true
unfolding member
mem_member k (x ∷ ks) (Memᴰ.head e) = rw (e, same_refl x)
mem_member k (x ∷ ks) (Memᴰ.tail m) = by-test (same k x) (λ p. rw p) (λ p. rw (p, mem_member k ks m))
mem_member k [] x' = elim x' [ ]

-- the last assignment, in words
module _ {A : Type 0} where
  pub last_absent : (k : Bytes) (o : Option A) (bs : List (Entry A)) → member k (map key_of bs) ≡ false → last_of k o bs ≡ o
  unfolding member
  last_absent k o [] h = refl
  last_absent k o (b ∷ bs) h =
      rw
      (newer, or_left (same k b.key) (member k (map key_of bs)) h)
      (last_absent k o bs (or_right (same k b.key) (member k (map key_of bs)) h))

  pub last_at :
      (k : Bytes) (o : Option A) (before : List (Entry A)) (x : A) (after : List (Entry A))
      → member k (map key_of after) ≡ false
      → last_of k o (before ++ (entry k x ∷ after)) ≡ some x
  last_at k o before x after h =
      rw (foldl-append (newer k) o before (entry k x ∷ after), newer, same_refl k) (last_absent k (some x) after h)

pub distinct_firsts : (ks xs : List Bytes) → Distinct ks → Distinct (firsts ks xs)
unfolding add
distinct_firsts ks [] d = d
distinct_firsts ks (x ∷ xs) d =
    by-test (member x ks)
    (λ e. rw (add, e) (distinct_firsts ks xs d))
    (λ e. rw (add, e) (distinct_firsts (ks ++ (x ∷ [])) xs (distinct_snoc ks x d e)))

pub lookup_absent : {A : Type 0} (k : Bytes) (m : Map A) → member k (map key_of m) ≡ false → lookup k m ≡ none
unfolding lookup member
lookup_absent k [] h = refl
lookup_absent k (e ∷ m) h =
    rw
    (or_left (same k e.key) (member k (map key_of m)) h)
    (lookup_absent k m (or_right (same k e.key) (member k (map key_of m)) h))

-- a map is its names in order and the value of each
pub map_ext :
    {A : Type 0} (m w : Map A)
    → Distinct (map key_of m)
    → map key_of m ≡ map key_of w
    → ((k : Bytes) → lookup k m ≡ lookup k w)
    → m ≡ w
unfolding lookup member
map_ext [] [] d e h = refl
map_ext [] (b ∷ w) d e h = cc
map_ext (a ∷ m) [] d e h = cc
map_ext (a ∷ m) (b ∷ w) d e h =
    let p : a.key ≡ b.key = cc in
    let q : map key_of m ≡ map key_of w = cc in
    let x : some a.value ≡ some b.value = rw (same_refl a.key, ← p, same_refl a.key) at (h a.key) in
    let y : a.value ≡ b.value = cc in
    ap₂ ◌∷◌ (ap₂ entry p y)
    (map_ext m w d.1 q
    (λ k.
    by-test (same k a.key)
    (λ s.
    rw (same_true k a.key s)
    (lookup_absent a.key m d.0 ∙ sym (lookup_absent a.key w (rw q at d.0))))
    (λ s. rw (s, ← p, s) at (h k))))
