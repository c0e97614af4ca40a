-- The words as what all of them are, each at its place.
use Rattle.std.proofs.Common.{◌≡◌, ◌+◌, ℕ, List, [], ◌∷◌, Bool, ◌&&◌, eqb, refl, ap, ◌∙◌, rules}
use Rattle.std.specs.List.{enumerate_from, list_all}
use Rattle.std.proofs.lemmas.Iterator.{YieldsList-from_slice}
use Rattle.std.proofs.lemmas.Iterator.Consumers.{YieldsList-from_enumerate}
use Rattle.std.proofs.lemmas.Iterator.Search.{all_from_yields_List}
use Rattle.stdio.specs.Cases.{entry, are_words}
use Rattle.stdio.proofs.cases.words_are.Goals as goal

module _ (s : List ℕ) (at entries : ℕ) where
  abbrev is_entry : ℕ × ℕ → Bool
  is_entry p = eqb p.1 (entry s at entries p.0)

  each_entry : (t : List ℕ) (i : ℕ) → list_all is_entry (enumerate_from i t) ≡ are_words t s at entries i
  unfolding are_words
  each_entry [] i = refl
  each_entry (w ∷ t) i = ap (λ b. eqb w (entry s at entries i) && b) (each_entry t (i + 1))

pub returns : goal.returns
returns c =
    let a = c.args in
    all_from_yields_List (is_entry a.s.now a.at a.entries) _ _ _ c.all.ensures.ran (YieldsList-from_enumerate (YieldsList-from_slice a.t.now (cc)) (cc)) (λ x b q k. search rules)
    ∙ each_entry a.s.now a.at a.entries a.t.now 0
