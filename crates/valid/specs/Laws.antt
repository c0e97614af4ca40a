-- What sound tables give their readers, entry by entry; and that an entry of zeros is never sound.
use Rattle.std.specs.Prelude.{ℕ, zero, suc, ◌<◌, ◌≡◌, refl, Bool, true, false, not, List, eqb, leb, Float}
use Rattle.std.proofs.Common.{arith, sym, ◌∙◌, ap, eqb-true}
use Rattle.std.proofs.lemmas.Bool.{eqb-false}
use Rattle.base.specs.Choice.{by-test, if_true, if_false, clash}
use Rattle.table.specs.Value.{word_at}
use Rattle.valid.specs.Valid.{all_below, span_in, named_entry, rule_sound, selector_sound, test_sound, property_sound}

-- where all below a count pass, each does
pub each_below : (p : ℕ → Bool) → (n i : ℕ) → i < n → all_below p n ≡ true → p i ≡ true
unfolding all_below
each_below p zero i h e = absurd (omega arith)
each_below p (suc n) i h e =
    by-test (p n)
    (λ y. by-test (eqb i n)
    (λ q. ap p (eqb-true i n q) ∙ y)
    (λ q. each_below p n i (let d : i ≡ n → ⊥ = eqb-false i n q in omega arith) (if_true (p n) (all_below p n) false y refl ∙ e)))
    (λ f. clash e (sym (if_false (p n) (all_below p n) false f refl)))

-- kind 0 is unknown
pub no_kind : (w n : ℕ) → w ≡ 0 → span_in 1 w n ≡ false
unfolding span_in
no_kind w n e = sym (if_false _ _ _ (ap (λ (k : ℕ). leb 1 k) e) refl)

pub no_name : (t : List ℕ) (most bundle i : ℕ) → word_at t i 0 ≡ 0 → named_entry t most bundle i ≡ false
unfolding named_entry
no_name t most bundle i e = sym (if_false _ _ _ (no_kind _ most e) refl)

pub zero_rule : (t : List ℕ) (s p i : ℕ) → word_at t i 0 ≡ 0 → rule_sound t s p i ≡ false
unfolding rule_sound
zero_rule t s p i e = sym (if_true _ _ _ (ap (λ (k : ℕ). not (eqb k 1)) e) refl)

pub zero_selector : (t : List ℕ) (tests bundle i : ℕ) → word_at t i 0 ≡ 0 → selector_sound t tests bundle i ≡ false
unfolding selector_sound
zero_selector t tests bundle i e = sym (if_false _ _ _ (no_kind _ 6 e) refl)

pub zero_test : (t : List ℕ) (xs : List Float) (numbers bundle i : ℕ) → word_at t i 0 ≡ 0 → test_sound t xs numbers bundle i ≡ false
unfolding test_sound
zero_test t xs numbers bundle i e = sym (if_false _ _ _ (no_name t 12 bundle i e) refl)

pub zero_property : (t : List ℕ) (numbers bundle i : ℕ) → word_at t i 0 ≡ 0 → property_sound t numbers bundle i ≡ false
unfolding property_sound
zero_property t numbers bundle i e = sym (if_false _ _ _ (no_name t 6 bundle i e) refl)
