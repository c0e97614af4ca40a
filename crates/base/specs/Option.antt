-- Case analysis on an Option and on a Result, and the laws by which a return follows a definition down its cases.
use Rattle.std.specs.Prelude.{◌≡◌, Option, Some, None, Result, Ok, Err}
use Rattle.std.proofs.Common.{sym, ap, ◌∙◌}

-- a function of two or more, on a tuple
abbrev pub on_two : {A B R : Type 0} → (A → B → R) → A × B → R
on_two f p = f p.0 p.1

abbrev pub on_three : {A B C R : Type 0} → (A → B → C → R) → A × B × C → R
on_three f p = f p.0 p.1 p.2

abbrev pub on_four : {A B C D R : Type 0} → (A → B → C → D → R) → A × B × C × D → R
on_four f p = f p.0 p.1 p.2 p.3

unfoldable pub on_option : {A R : Type 0} → Option A → R → (A → R) → R
on_option None n f = n
on_option (Some a) n f = f a

-- the same, beside what a call left in the tables
unfoldable pub with_option : {A T R : Type 0} → Option A × T → (T → R) → (A → T → R) → R
with_option x n f = on_option x.0 (n x.1) (λ a. f a x.1)

-- the same where what is there is a tuple
abbrev pub on_option2 : {A B R : Type 0} → Option (A × B) → R → (A → B → R) → R
on_option2 x n f = on_option x n (on_two f)

abbrev pub on_option3 : {A B C R : Type 0} → Option (A × B × C) → R → (A → B → C → R) → R
on_option3 x n f = on_option x n (on_three f)

pub option_none : {A R : Type 0} (x : Option A) (n : R) (f : A → R) {y : R} → x ≡ None → y ≡ n → y ≡ on_option x n f
unfolding on_option
option_none x n f e h = h ∙ sym (ap (λ x. on_option x n f) e)

pub option_some : {A R : Type 0} (x : Option A) (n : R) (f : A → R) {a : A} {y : R} → x ≡ Some a → y ≡ f a → y ≡ on_option x n f
unfolding on_option
option_some x n f e h = h ∙ sym (ap (λ x. on_option x n f) e)

pub option_none_with : {A T R : Type 0} (x : Option A × T) (n : T → R) (f : A → T → R) {u : T} {y : R} → x ≡ (None, u) → y ≡ n u → y ≡ with_option x n f
unfolding on_option with_option
option_none_with x n f e h = h ∙ sym (ap (λ x. with_option x n f) e)

pub option_some_with : {A T R : Type 0} (x : Option A × T) (n : T → R) (f : A → T → R) {a : A} {u : T} {y : R} → x ≡ (Some a, u) → y ≡ f a u → y ≡ with_option x n f
unfolding on_option with_option
option_some_with x n f e h = h ∙ sym (ap (λ x. with_option x n f) e)

unfoldable pub on_result : {A E R : Type 0} → Result A E → (E → R) → (A → R) → R
on_result (Err e) g f = g e
on_result (Ok a) g f = f a

unfoldable pub with_result : {A E T R : Type 0} → Result A E × T → (E → T → R) → (A → T → R) → R
with_result x g f = on_result x.0 (λ e. g e x.1) (λ a. f a x.1)

abbrev pub on_result2 : {A B E R : Type 0} → Result (A × B) E → (E → R) → (A → B → R) → R
on_result2 x g f = on_result x g (on_two f)

abbrev pub on_result3 : {A B C E R : Type 0} → Result (A × B × C) E → (E → R) → (A → B → C → R) → R
on_result3 x g f = on_result x g (on_three f)

abbrev pub on_result4 : {A B C D E R : Type 0} → Result (A × B × C × D) E → (E → R) → (A → B → C → D → R) → R
on_result4 x g f = on_result x g (on_four f)

pub result_err : {A E R : Type 0} (x : Result A E) (g : E → R) (f : A → R) {e : E} {y : R} → x ≡ Err e → y ≡ g e → y ≡ on_result x g f
unfolding on_result
result_err x g f e h = h ∙ sym (ap (λ x. on_result x g f) e)

pub result_ok : {A E R : Type 0} (x : Result A E) (g : E → R) (f : A → R) {a : A} {y : R} → x ≡ Ok a → y ≡ f a → y ≡ on_result x g f
unfolding on_result
result_ok x g f e h = h ∙ sym (ap (λ x. on_result x g f) e)

pub result_err_with : {A E T R : Type 0} (x : Result A E × T) (g : E → T → R) (f : A → T → R) {e : E} {u : T} {y : R} → x ≡ (Err e, u) → y ≡ g e u → y ≡ with_result x g f
unfolding on_result with_result
result_err_with x g f e h = h ∙ sym (ap (λ x. with_result x g f) e)

pub result_ok_with : {A E T R : Type 0} (x : Result A E × T) (g : E → T → R) (f : A → T → R) {a : A} {u : T} {y : R} → x ≡ (Ok a, u) → y ≡ f a u → y ≡ with_result x g f
unfolding on_result with_result
result_ok_with x g f e h = h ∙ sym (ap (λ x. with_result x g f) e)

-- a Result whose success may hold nothing
abbrev pub on_result_option : {A E R : Type 0} → Result (Option A) E → (E → R) → R → (A → R) → R
on_result_option x g n f = on_result x g (λ o. on_option o n f)
