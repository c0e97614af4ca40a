-- What an Option or a Result is, by cases, and what two equal ones hold.
use Rattle.std.specs.Prelude.{◌≡◌, Option, Some, None, Result, Ok, Err, IsErr, IsErrAnd, MatchResult, is_ok, ok_or}
use Rattle.std.specs.Result.{result_ok}
use Rattle.std.proofs.Common.{refl, sym, ap, subst, ◌∙◌, true≢false}
use Rattle.std.proofs.lemmas.Option.{some_pair_parts}
use Rattle.base.specs.Option.{on_option, on_option2, on_result, on_result2}

-- the two cases, each with its equation
pub by_option : {A R : Type 0} (x : Option A) → (x ≡ None → R) → ((a : A) → x ≡ Some a → R) → R
by_option None n f = n refl
by_option (Some a) n f = f a refl

pub by_option2 : {A B R : Type 0} (x : Option (A × B)) → (x ≡ None → R) → ((a : A) (b : B) → x ≡ Some (a, b) → R) → R
by_option2 None n f = n refl
by_option2 (Some (a, b)) n f = f a b refl

-- what is not there is not what is there
pub none_some : {A R : Type 0} {a : A} → ◌≡◌ {A = Option A} None (Some a) → R
none_some e = absurd (cc)

-- the parts of what is there, where two are equal (a tuple is no constructor, so `cc` does not take it apart)
pub some2_first : {A B : Type 0} {a a' : A} {b b' : B} → ◌≡◌ {A = Option (A × B)} (Some (a, b)) (Some (a', b')) → a ≡ a'
some2_first e = (some_pair_parts _ _ _ _ e).0

pub some2_second : {A B : Type 0} {a a' : A} {b b' : B} → ◌≡◌ {A = Option (A × B)} (Some (a, b)) (Some (a', b')) → b ≡ b'
some2_second e = (some_pair_parts _ _ _ _ e).1

pub ok2_first : {A B E : Type 0} {a a' : A} {b b' : B} → ◌≡◌ {A = Result (A × B) E} (Ok (a, b)) (Ok (a', b')) → a ≡ a'
unfolding on_result
ok2_first {a = a} e = ap (λ o. on_result o (λ _. a) (λ p. p.0)) e

pub ok2_second : {A B E : Type 0} {a a' : A} {b b' : B} → ◌≡◌ {A = Result (A × B) E} (Ok (a, b)) (Ok (a', b')) → b ≡ b'
unfolding on_result
ok2_second {b = b} e = ap (λ o. on_result o (λ _. b) (λ p. p.1)) e

pub ok3_third : {A B C E : Type 0} {a a' : A} {b b' : B} {c c' : C} → ◌≡◌ {A = Result (A × B × C) E} (Ok (a, b, c)) (Ok (a', b', c')) → c ≡ c'
unfolding on_result
ok3_third {c = c} e = ap (λ o. on_result o (λ _. c) (λ p. p.2)) e

pub ok4_fourth : {A B C D E : Type 0} {a a' : A} {b b' : B} {c c' : C} {d d' : D} → ◌≡◌ {A = Result (A × B × C × D) E} (Ok (a, b, c, d)) (Ok (a', b', c', d')) → d ≡ d'
unfolding on_result
ok4_fourth {d = d} e = ap (λ o. on_result o (λ _. d) (λ p. p.3)) e

-- what a `?` hands on
pub handed_on : {A E : Type 0} (r : Result A E) {e : E} → IsErr r × IsErrAnd r (λ x. x ≡ e) → r ≡ Err e
handed_on (Err x) h = ap Err h.1
handed_on (Ok x) h = absurd h.1

-- what an option is behind `ok_or(..)?`, and the error that is handed on
pub or_some : {A E : Type 0} {x : Option A} {r : Result A E} {a : A} → x ≡ result_ok r → r ≡ Ok a → x ≡ Some a
or_some e h = e ∙ ap result_ok h

pub or_none : {A E : Type 0} {x : Option A} {r : Result A E} {d : E} → x ≡ result_ok r → r ≡ Err d → x ≡ None
or_none e h = e ∙ ap result_ok h

pub or_err : {A E : Type 0} (x : Option A) {r : Result A E} {d d' : E} → r ≡ ok_or x d' → r ≡ Err d → d ≡ d'
or_err None e h = let p = sym h ∙ e in cc
or_err (Some a) e h = absurd (true≢false (ap is_ok (sym e ∙ h)))

-- what a result is behind `map_err(..)?`, and the error that is handed on
pub mapped_ok :
    {A D E : Type 0} (x : Result A D) (r : Result A E) (P : D → E → Type 0) {a : A}
    → MatchResult x (λ b. r ≡ Ok b) (λ d. IsErrAnd r (P d))
    → r ≡ Ok a
    → x ≡ Ok a
mapped_ok (Ok b) r P h e = let p = sym h ∙ e in cc
mapped_ok (Err d) r P h e = absurd (subst (λ r. IsErrAnd r (P d)) e h)

pub mapped_err :
    {A D E : Type 0} (x : Result A D) (r : Result A E) (P : D → E → Type 0) (f : D → E) {e : E}
    → ((d : D) (e : E) → P d e → e ≡ f d)
    → MatchResult x (λ b. r ≡ Ok b) (λ d. IsErrAnd r (P d))
    → r ≡ Err e
    → (d : D) × ((x ≡ Err d) × (e ≡ f d))
mapped_err (Ok b) r P f p h e = absurd (true≢false (ap is_ok (sym h ∙ e)))
mapped_err (Err d) r P f p h e = (d, (refl, p d _ (subst (λ r. IsErrAnd r (P d)) e h)))

-- what is no Some, as behind `let Some(..) = .. else`
pub not_some : {A : Type 0} (x : Option A) → ((a : A) → x ≡ Some a → ⊥) → x ≡ None
not_some None h = refl
not_some (Some a) h = absurd (h a refl)

-- what is behind a `?`, and what that is
pub ok_is : {A E : Type 0} {r : Result A E} {a b : A} → r ≡ Ok a → a ≡ b → r ≡ Ok b
ok_is e f = e ∙ ap Ok f

-- what holds in each case holds of what is made of the cases
module _ {R : Type 0} (P : R → Type 0) where
  pub split_option :
      {A : Type 0} (x : Option A) (n : R) (f : A → R)
      → (x ≡ None → P n)
      → ((a : A) → x ≡ Some a → P (f a))
      → P (on_option x n f)
  unfolding on_option
  split_option None n f p q = p refl
  split_option (Some a) n f p q = q a refl

  pub split_option2 :
      {A B : Type 0} (x : Option (A × B)) (n : R) (f : A → B → R)
      → (x ≡ None → P n)
      → ((a : A) (b : B) → x ≡ Some (a, b) → P (f a b))
      → P (on_option2 x n f)
  unfolding on_option
  split_option2 None n f p q = p refl
  split_option2 (Some (a, b)) n f p q = q a b refl

  pub split_result2 :
      {A B E : Type 0} (x : Result (A × B) E) (g : E → R) (f : A → B → R)
      → ((e : E) → x ≡ Err e → P (g e))
      → ((a : A) (b : B) → x ≡ Ok (a, b) → P (f a b))
      → P (on_result2 x g f)
  unfolding on_result
  split_result2 (Err e) g f p q = p e refl
  split_result2 (Ok (a, b)) g f p q = q a b refl
