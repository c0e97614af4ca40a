-- The walk as the code runs it, over one lent table of 33 rows of 131 words. A row is a layer: the number of the selector that
-- named it, how many properties it has, and their numbers, 128 at most. Names and verdicts are functions of a number.
use Rattle.std.specs.Prelude.{ℕ, zero, suc, ◌+◌, ◌*◌, ◌-◌, cond, List, ◌∷◌, ◌++◌, ltb, get_or, take, drop, length, set, Result, Ok, Err}
use Rattle.base.specs.Bytes.{Bytes, same}
use Rattle.table.specs.Value.{word_at, range_at}
use Rattle.cascade.specs.Clause.{star}
use Rattle.cascade.specs.Match.{Verdict, pass, fail, out}
use Rattle.decode.specs.Decode.{places_in}
use Rattle.walk.specs.Rows.{assigns}

-- a run is stopped by a refusal's number, or goes on with a count of layers and the table
pub data Run : Type 0 where
  stop : ℕ → Run
  going : ℕ → List ℕ → Run

-- what an answer tells, beside the count and the table that it leaves: after a refusal they are not spoken of
abbrev pub told : Result (Unit {0}) ℕ → ℕ → List ℕ → Run
told (Err k) n t = stop k
told (Ok u) n t = going n t

unfoldable pub bind : Run → (ℕ → List ℕ → Run) → Run
bind (stop k) f = stop k
bind (going n t) f = f n t

-- the words ys stored from place a on
unfoldable pub over : List ℕ → ℕ → List ℕ → List ℕ
over t a ys = take a t ++ (ys ++ drop (a + length ys) t)

-- k words copied, from the first to the last
unfoldable pub copied : List ℕ → ℕ → ℕ → ℕ → List ℕ
copied t a b zero = t
copied t a b (suc k) = copied (set t b (get_or t a 0)) (a + 1) (b + 1) k

module _ (name : ℕ → Bytes) where
  -- the numbers of layer i after the properties ps
  abbrev pub grown : List ℕ → ℕ → List ℕ → List ℕ
  grown t i ps = assigns name (take (get_or t (i * 131 + 1) 0) (take 129 (drop (i * 131 + 1 + 1) t))) ps

  -- 24 where they are more than 128
  unfoldable pub assign_at : List ℕ → ℕ → ℕ → List ℕ → Run
  assign_at t m i ps =
      cond (ltb (length (grown t i ps)) 129) (going m (over t (i * 131 + 1) (length (grown t i ps) ∷ grown t i ps))) (stop 24)

  -- k layers from the i-th on
  unfoldable pub assign_all : List ℕ → ℕ → ℕ → ℕ → List ℕ → Run
  assign_all t m i zero ps = going m t
  assign_all t m i (suc k) ps = bind (assign_at t m i ps) (λ q t. assign_all t m (i + 1) k ps)

module _ (layer : ℕ → Bytes) where
  -- the first of k layers from the i-th on that has this name, else the place after them
  unfoldable pub seek : List ℕ → Bytes → ℕ → ℕ → ℕ
  seek t l i zero = i
  seek t l i (suc k) = cond (same l (layer (get_or t (i * 131) 0))) i (seek t l (i + 1) k)

  -- a new layer, named by selector s: a copy of `*`, if it is there
  abbrev pub inherited : List ℕ → ℕ → ℕ → List ℕ
  inherited t n j = cond (ltb j n) (copied t (j * 131) (n * 131) 131) t

  unfoldable pub new_row : List ℕ → ℕ → ℕ → List ℕ
  new_row t n s = set (inherited t n (seek t star 0 n)) (n * 131) s

module _ (name layer : ℕ → Bytes) where
  -- selector s of layer j of m assigns to its layer, and to all of them if it is of `*`
  unfoldable pub touch_of : List ℕ → ℕ → ℕ → ℕ → List ℕ → Run
  touch_of t m j s ps = cond (same star (layer s)) (assign_all name t m 0 m ps) (assign_at name t m j ps)

  -- 23 where its layer would be the 33rd
  unfoldable pub step_of : List ℕ → ℕ → ℕ → List ℕ → Run
  step_of t n s ps =
      cond (ltb (seek layer t (layer s) 0 n) n) (touch_of t n (seek layer t (layer s) 0 n) s ps)
      (cond (ltb n 32) (touch_of (new_row layer t n s) (n + 1) n s ps) (stop 23))

-- a selector that matches, one that does not, and a tag number out of range, which is 8
abbrev pub on_verdict : Verdict → Run → Run → Run
on_verdict pass a b = a
on_verdict fail a b = b
on_verdict out a b = stop 8

module _ (name layer : ℕ → Bytes) (verdict_of : ℕ → Verdict) where
  unfoldable pub hit_of : List ℕ → ℕ → ℕ → List ℕ → Run
  hit_of t n s ps = on_verdict (verdict_of s) (step_of name layer t n s ps) (going n t)

  -- k selectors from the s-th on
  unfoldable pub selectors_of : List ℕ → ℕ → ℕ → ℕ → List ℕ → Run
  selectors_of t n s zero ps = going n t
  selectors_of t n s (suc k) ps = bind (hit_of t n s ps) (λ n t. selectors_of t n (s + 1) k ps)

  -- the selectors of a rule, with its properties
  unfoldable pub rule_of : List ℕ → List ℕ → ℕ → ℕ → Run
  rule_of rules t n r = selectors_of t n (word_at rules r 1) (word_at rules r 2 - word_at rules r 1) (places_in (range_at rules r 3))

  -- k rules from the r-th on
  unfoldable pub rules_of : List ℕ → List ℕ → ℕ → ℕ → ℕ → Run
  rules_of rules t n r zero = going n t
  rules_of rules t n r (suc k) = bind (rule_of rules t n r) (λ n t. rules_of rules t n (r + 1) k)
