-- A verdict depends on the kind and the tested tags alone; it is 8 exactly if a reached test meets a tag number out of range.
use Rattle.std.specs.Prelude.{ℕ, ◌≡◌, refl, Bool, true, false}
use Rattle.std.proofs.Common.{ap}
use mathlib.Core.List.{List, [], ◌∷◌, ◌++◌, map, Memᴰ}
use Rattle.std.proofs.Math.Option.{Option, none, some}
use Rattle.base.specs.Bytes.{Bytes}
use Rattle.base.specs.Choice.{by-test, different}
use Rattle.base.specs.Entity.{Entity}
use Rattle.sheet.specs.Sheet.{Test, unary, text, numeric, Selector}
use Rattle.cascade.specs.Number.{TagNumber, reads, malformed, out_of_range, tag_number}
use Rattle.cascade.specs.Match.{tag, Verdict, pass, fail, out, of_bool, unary_holds, text_holds, compares, number_verdict, numeric_verdict, test_key, test_verdict, verdict_on, applies, tests_verdict, verdict, Reached, Outside}

pub by-verdict {ℓ} : {A : Type ℓ} (v : Verdict) → (v ≡ pass → A) → (v ≡ fail → A) → (v ≡ out → A) → A
by-verdict pass f g h = f refl
by-verdict fail f g h = g refl
by-verdict out f g h = h refl

tests_agree :
    (d e : Entity) (ts : List Test)
    → ((k : Bytes) → Memᴰ k (map test_key ts) → tag d k ≡ tag e k)
    → tests_verdict d ts ≡ tests_verdict e ts
unfolding tests_verdict
tests_agree d e [] h = refl
tests_agree d e (t ∷ ts) h = rw (h (test_key t) (Memᴰ.head refl), tests_agree d e ts (λ k m. h k (Memᴰ.tail m)))

pub verdict_agree :
    (z : ℕ) (d e : Entity) (s : Selector)
    → d.kind ≡ e.kind
    → ((k : Bytes) → Memᴰ k (map test_key s.tests) → tag d k ≡ tag e k)
    → verdict z d s ≡ verdict z e s
unfolding verdict
verdict_agree z d e s p h = rw (tests_agree d e s.tests h, p)

pub verdict_unfit : (z : ℕ) (e : Entity) (s : Selector) → applies z e.kind s ≡ false → verdict z e s ≡ fail
unfolding verdict
verdict_unfit z e s p = rw p

bool_in : {A : Type 0} (b : Bool) → of_bool b ≡ out → A
bool_in true p = different cc
bool_in false p = different cc

-- 8 comes from such a test only
out_outside : (e : Entity) (t : Test) → verdict_on e t ≡ out → Outside e t
unfolding test_verdict numeric_verdict number_verdict
out_outside e (unary u k) p = bool_in (unary_holds u (tag e k)) p
out_outside e (text q k v) p = bool_in (text_holds q v (tag e k)) p
out_outside e (numeric c k y) p = found (tag e k) refl p
  where
    known : (v : Bytes) (n : TagNumber) → tag e k ≡ some v → tag_number v ≡ n → number_verdict c y n ≡ out → Outside e (numeric c k y)
    known v (reads x) i j q = bool_in (compares c x y) q
    known v malformed i j q = different cc
    known v out_of_range i j q = record { test = c; bound = y; bytes = v; numeric_is = refl; tag_is = i; number_is = j }

    found : (o : Option Bytes) → tag e k ≡ o → numeric_verdict c y o ≡ out → Outside e (numeric c k y)
    found none i q = different cc
    found (some v) i q = known v (tag_number v) i refl q

outside_out : (e : Entity) (t : Test) → Outside e t → verdict_on e t ≡ out
unfolding test_verdict numeric_verdict number_verdict
outside_out e t o = rw (o.numeric_is, o.tag_is, o.number_is)

tests_reach :
    (e : Entity) (ts : List Test)
    → tests_verdict e ts ≡ out
    → (earlier : List Test) × (t : Test) × (later : List Test) × (ts ≡ earlier ++ (t ∷ later)) ×
    (tests_verdict e earlier ≡ pass) × (verdict_on e t ≡ out)
unfolding tests_verdict
tests_reach e [] p = different cc
tests_reach e (t ∷ ts) p =
    by-verdict (verdict_on e t)
    (λ v.
    let r = tests_reach e ts (rw v at p) in
    (t ∷ r.0, r.1, r.2, ap (λ l. t ∷ l) r.3, (rw v r.4), r.5))
    (λ v. let q = rw v at p in different cc)
    (λ v. ([], t, ts, refl, refl, v))

tests_out :
    (e : Entity) (us : List Test) (t : Test) (bs : List Test)
    → tests_verdict e us ≡ pass
    → verdict_on e t ≡ out
    → tests_verdict e (us ++ (t ∷ bs)) ≡ out
unfolding tests_verdict
tests_out e [] t bs p q = rw q
tests_out e (a ∷ us) t bs p q =
    by-verdict (verdict_on e a)
    (λ v. rw v (tests_out e us t bs (rw v at p) q))
    (λ v. let r = rw v at p in different cc)
    (λ v. rw v)

-- 8 exactly if a reached numeric test meets a tag number outside the exact range
pub out_reached : (z : ℕ) (e : Entity) (s : Selector) → verdict z e s ≡ out → (t : Test) × Reached z e s t × Outside e t
unfolding verdict
out_reached z e s p =
    by-test (applies z e.kind s)
    (λ a.
    let r = tests_reach e s.tests (rw a at p) in
    (r.1, record { fits = a; earlier = r.0; later = r.2; stands = r.3; hold = r.4 }, out_outside e r.1 r.5))
    (λ a. let q = rw a at p in different cc)

pub reached_out : (z : ℕ) (e : Entity) (s : Selector) (t : Test) → Reached z e s t → Outside e t → verdict z e s ≡ out
unfolding verdict
reached_out z e s t r o = rw (r.fits, r.stands) (tests_out e r.earlier t r.later r.hold (outside_out e t o))
