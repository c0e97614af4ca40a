-- The proof of Spelled.
use Rattle.std.specs.Prelude.{◌≡◌, Float}
use Rattle.std.proofs.Math.Path.{refl}
use Rattle.std.proofs.Common.{sym, ◌∙◌, ap}
use Rattle.std.proofs.lemmas.List.{append-nil}
use mathlib.Core.List.{List, [], ◌∷◌, ◌++◌, append_assoc}
use Rattle.grammar.specs.Reading.{Test, text, plain, Value, numbers, Selector, Property, Rule, rule, rule_item, color_item, Reading, rules_of}
use Rattle.grammar.specs.Input.{Entry, rule_entry, selector_entry, test_entry, property_entry, number_entry, color_entry}
use Rattle.grammar.specs.Entries.{test_entries, tests_entries, numbers_entries, value_entries, properties_entries, selectors_entries, rule_entries, entries_of}
use Rattle.grammar.specs.Capacity.{Tables, add, add_all}
use Rattle.grammar.specs.Spelled.{rules_from, Spelled}

module _ (ss : List Selector) (ps : List Property) (es : List Entry) where
  test_spells : (t : Test) → rules_from ss ps (test_entries t ++ es) ≡ rules_from ss ps es
  unfolding rules_from
  test_spells (text o a (plain b)) = refl
  test_spells t = refl

  numbers_spell : (xs : List Float) → rules_from ss ps (numbers_entries xs ++ es) ≡ rules_from ss ps es
  unfolding rules_from numbers_entries
  numbers_spell [] = refl
  numbers_spell (x ∷ xs) = numbers_spell xs

  value_spells : (v : Value) → rules_from ss ps (value_entries v ++ es) ≡ rules_from ss ps es
  unfolding rules_from
  value_spells (numbers xs) = numbers_spell xs
  value_spells v = refl

tests_spell :
    (ss : List Selector) (ps : List Property) (es : List Entry) (ts : List Test)
    → rules_from ss ps (tests_entries ts ++ es) ≡ rules_from ss ps es
unfolding tests_entries
tests_spell ss ps es [] = refl
tests_spell ss ps es (t ∷ ts) =
    ap (rules_from ss ps) (append_assoc (test_entries t) (tests_entries ts) es)
    ∙ test_spells ss ps (tests_entries ts ++ es) t
    ∙ tests_spell ss ps es ts

properties_spell :
    (ss : List Selector) (ps : List Property) (es : List Entry) (qs : List Property)
    → rules_from ss ps (properties_entries qs ++ es) ≡ rules_from ss (ps ++ qs) es
unfolding rules_from properties_entries
properties_spell ss ps es [] = ap (λ ps. rules_from ss ps es) (sym (append-nil ps))
properties_spell ss ps es (q ∷ qs) =
    ap (rules_from ss ps) (append_assoc (value_entries q.value) (property_entry q ∷ properties_entries qs) es)
    ∙ value_spells ss ps (property_entry q ∷ (properties_entries qs ++ es)) q.value
    ∙ properties_spell ss (ps ++ (q ∷ [])) es qs
    ∙ ap (λ ps. rules_from ss ps es) (append_assoc ps (q ∷ []) qs)

selectors_spell :
    (ss : List Selector) (ps : List Property) (es : List Entry) (σs : List Selector)
    → rules_from ss ps (selectors_entries σs es) ≡ rules_from (ss ++ σs) ps es
unfolding rules_from selectors_entries
selectors_spell ss ps es [] = ap (λ ss. rules_from ss ps es) (sym (append-nil ss))
selectors_spell ss ps es (σ ∷ σs) =
    tests_spell ss ps (selector_entry σ ∷ selectors_entries σs es) σ.tests
    ∙ selectors_spell (ss ++ (σ ∷ [])) ps es σs
    ∙ ap (λ ss. rules_from ss ps es) (append_assoc ss (σ ∷ []) σs)

selectors_append : (σs : List Selector) (es fs : List Entry) → selectors_entries σs es ++ fs ≡ selectors_entries σs (es ++ fs)
unfolding selectors_entries
selectors_append [] es fs = refl
selectors_append (σ ∷ σs) es fs =
    append_assoc (tests_entries σ.tests) (selector_entry σ ∷ selectors_entries σs es) fs
    ∙ ap (λ es. tests_entries σ.tests ++ (selector_entry σ ∷ es)) (selectors_append σs es fs)

rule_spells : (r : Rule) (es : List Entry) → rules_from [] [] (rule_entries r ++ es) ≡ r ∷ rules_from [] [] es
unfolding rules_from rule_entries
rule_spells r es =
    ap (rules_from [] []) (selectors_append r.selectors (properties_entries r.properties ++ (rule_entry ∷ [])) es)
    ∙ selectors_spell [] [] ((properties_entries r.properties ++ (rule_entry ∷ [])) ++ es) r.selectors
    ∙ ap (rules_from r.selectors []) (append_assoc (properties_entries r.properties) (rule_entry ∷ []) es)
    ∙ properties_spell r.selectors [] (rule_entry ∷ es) r.properties

pub entries_spell : (js : Reading) → rules_from [] [] (entries_of js) ≡ rules_of js
unfolding rules_from entries_of rules_of
entries_spell [] = refl
entries_spell (rule_item r ∷ js) = rule_spells r (entries_of js) ∙ ap (λ rs. r ∷ rs) (entries_spell js)
entries_spell (color_item n c ∷ js) = entries_spell js

-- ---- the tables keep all entries but the colours

unfoldable colorless : List Entry → List Entry
colorless [] = []
colorless (rule_entry ∷ es) = rule_entry ∷ colorless es
colorless (selector_entry σ ∷ es) = selector_entry σ ∷ colorless es
colorless (test_entry t ∷ es) = test_entry t ∷ colorless es
colorless (property_entry p ∷ es) = property_entry p ∷ colorless es
colorless (number_entry x ∷ es) = number_entry x ∷ colorless es
colorless (color_entry n c ∷ es) = colorless es

colorless_spells : (ss : List Selector) (ps : List Property) (es : List Entry) → rules_from ss ps (colorless es) ≡ rules_from ss ps es
unfolding rules_from colorless
colorless_spells ss ps [] = refl
colorless_spells ss ps (rule_entry ∷ es) = ap (λ rs. rule ss ps ∷ rs) (colorless_spells [] [] es)
colorless_spells ss ps (selector_entry σ ∷ es) = colorless_spells (ss ++ (σ ∷ [])) ps es
colorless_spells ss ps (test_entry t ∷ es) = colorless_spells ss ps es
colorless_spells ss ps (property_entry p ∷ es) = colorless_spells ss (ps ++ (p ∷ [])) es
colorless_spells ss ps (number_entry x ∷ es) = colorless_spells ss ps es
colorless_spells ss ps (color_entry n c ∷ es) = colorless_spells ss ps es

added_entries : (es : List Entry) (τ : Tables) → (add_all τ es).entries ≡ τ.entries ++ colorless es
unfolding add_all add colorless
added_entries [] τ = sym (append-nil τ.entries)
added_entries (rule_entry ∷ es) τ = added_entries es (add τ rule_entry) ∙ append_assoc τ.entries (rule_entry ∷ []) (colorless es)
added_entries (selector_entry σ ∷ es) τ =
    added_entries es (add τ (selector_entry σ)) ∙ append_assoc τ.entries (selector_entry σ ∷ []) (colorless es)
added_entries (test_entry t ∷ es) τ = added_entries es (add τ (test_entry t)) ∙ append_assoc τ.entries (test_entry t ∷ []) (colorless es)
added_entries (property_entry p ∷ es) τ =
    added_entries es (add τ (property_entry p)) ∙ append_assoc τ.entries (property_entry p ∷ []) (colorless es)
added_entries (number_entry x ∷ es) τ =
    added_entries es (add τ (number_entry x)) ∙ append_assoc τ.entries (number_entry x ∷ []) (colorless es)
added_entries (color_entry n c ∷ es) τ = added_entries es (add τ (color_entry n c))

-- the tables that a reading fills spell its rules
pub spelled : (js : Reading) → Spelled js
spelled js = ap (rules_from [] []) (added_entries (entries_of js) _) ∙ colorless_spells [] [] (entries_of js) ∙ entries_spell js
