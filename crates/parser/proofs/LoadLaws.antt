-- A load's answer and tables, from what reading the bundle into the lent tables answers.
use Prim.Native.Nat.{ℕ, ◌<◌}
use native.Mathlib.Omega.{arith}
use mathlib.Core.Path.{◌≡◌, refl, sym, ap, subst, ◌∙◌}
use mathlib.Core.Bool.{false}
use lib.Dec.{ltb}
use lib.ListN.{length}
use borrow.Author.Tests.{ltb-true, ltb-false}
use Rattle.base.specs.Bytes.{Bytes}
use Rattle.base.specs.Choice.{by-test, if_false, different}
use Rattle.base.specs.Refusal.{refusal}
use Rattle.base.specs.declared.Range.{Range}
use Rattle.base.specs.declared.refusal.Refusal.{Refusal}
use Rattle.bundle.proofs.Check.{bundle_long}
use Rattle.bundle.specs.Bundle.{is_bundle, check_of}
use Rattle.grammar.specs.Accepted.{load_into}
use Rattle.grammar.specs.Alike.{Alike, both_refused, both_read}
use Rattle.grammar.specs.Capacity.{Tables, empty}
use Rattle.grammar.specs.Input.{Answer}
use Rattle.grammar.specs.Reader.{load}
use Rattle.grammar.specs.Reading.{Reading}
use Rattle.keep.proofs.Loaded.{loaded_alike}
use Rattle.keep.proofs.Standing.{Written, lent_empty}
use Rattle.keep.specs.Encode.{Lengths, capacities, lent_of}
use Rattle.keep.specs.Lent.{Lent, lent, none_yet}
use Rattle.keep.specs.Source.{reading}
use Rattle.input.specs.Source.{Spot, source}
use Rattle.parser.specs.Load.{Held, zeros, held_in, counts_of, first_text, sheet_at, loaded, load_of, BundleRead}
use Rattle.parser.specs.declared.Counts.{Counts}
use Rattle.sheets.specs.Sheets.{Parses, stopped, ended, SheetRead}
use Rattle.std.specs.Prelude.{Result, Ok, Err}
use Rattle.base.specs.Option.{on_result}

-- ---- six tables at once

blanked : (l : Lengths) (τ : Lent) → held_in τ ≡ zeros l → τ.tally ≡ none_yet → τ ≡ lent_of l empty
blanked l τ e f =
    ap (λ (h : Held). lent τ.tally h.rules h.selectors h.tests h.properties h.numbers h.colors) e
    ∙ ap (λ n. let z = zeros l in lent n z.rules z.selectors z.tests z.properties z.numbers z.colors) f
    ∙ sym (lent_empty l)

-- ---- reading the bundle

pub bad_read : (bundle : Bytes) (τ τ' : Lent) {e : Refusal} → check_of bundle ≡ Err e → BundleRead bundle τ τ' (Err e)
bad_read bundle τ τ' {e} p =
    (λ x q. let z : e ≡ x = cc in ap Err z, λ k q. different cc)

pub texts_read :
    (bundle : Bytes) (r : Range) (τ τ' : Lent) (p : Result Unit Refusal) {count : ℕ}
    → check_of bundle ≡ Ok count
    → r ≡ first_text bundle
    → SheetRead bundle (source 0 r) 8 τ τ' p
    → BundleRead bundle τ τ' p
unfolding load
texts_read bundle r τ τ' p q e h = (λ x w. different cc, λ k w. subst (λ r. SheetRead bundle (source 0 r) 8 τ τ' p) e h)

-- ---- a bundle that passes its check is short

no_layout : (bundle : Bytes) → false ≡ is_bundle bundle → Err (refusal 1 0 0 0 0) ≡ check_of bundle
unfolding check_of
no_layout bundle e = if_false (is_bundle bundle) _ _ (sym e) refl

pub short_bundle : (bundle : Bytes) {count : ℕ} → check_of bundle ≡ Ok count → length bundle < 4294967296
short_bundle bundle e =
    by-test (ltb 1048576 (length bundle))
    (λ y. let w = no_layout bundle (bundle_long bundle (ltb-true 1048576 (length bundle) y)) ∙ e in different cc)
    (λ n. let h = ltb-false 1048576 (length bundle) n in omega arith)

-- ---- the answer and the tables

stopped_alike :
    (bundle : Bytes) (l : Lengths) (τ' : Lent) (e : Refusal) {a : Answer Reading Spot Lent Refusal} {b : Answer Reading Spot Tables Refusal}
    → Parses τ' (Err e) a
    → Alike (Written bundle l) a b
    → (Err e, zeros l) ≡ loaded l b
unfolding loaded
stopped_alike bundle l τ' e (stopped p) (both_refused w) = ap (λ e. (Err e, zeros l)) p

ended_alike :
    (bundle : Bytes) (l : Lengths) (τ' : Lent) {u : Unit} {a : Answer Reading Spot Lent Refusal} {b : Answer Reading Spot Tables Refusal}
    → Parses τ' (Ok u) a
    → Alike (Written bundle l) a b
    → (Ok (counts_of τ'.tally), held_in τ') ≡ loaded l b
unfolding loaded
ended_alike bundle l τ' ended (both_read w) = ap (λ (τ : Lent). (Ok (counts_of τ.tally), held_in τ)) w.is

module _ (bundle : Bytes) (l : Lengths) (τ τ' : Lent) (z : held_in τ ≡ zeros l) (y : τ.tally ≡ none_yet) {r : Result Unit Refusal} (h : BundleRead bundle τ τ' r) where
  read_from : {x : Result Unit Refusal} {count : ℕ} → check_of bundle ≡ Ok count → r ≡ x → Parses τ' x (load (reading bundle) (sheet_at bundle) (lent_of l empty))
  read_from {x = x} {count = k} w q =
      subst (λ τ. Parses τ' x (load (reading bundle) (sheet_at bundle) τ)) (blanked l τ z y)
      (subst (λ r. Parses τ' r (load (reading bundle) (sheet_at bundle) τ)) q (h.1 k w))

  pub load_stopped : (e : Refusal) → r ≡ Err e → (Err e, zeros l) ≡ load_of bundle l
  unfolding load_of on_result
  load_stopped e q = go (check_of bundle) refl
    where
      go : (x : Result ℕ Refusal) → check_of bundle ≡ x → (Err e, zeros l) ≡ on_result x (λ e. (Err e, zeros l)) (λ count. loaded l (load_into (reading bundle) (capacities l) (sheet_at bundle)))
      go (Err x) w =
          let u : r ≡ Err x = h.0 x w in
          let v : e ≡ x = cc in
          ap (λ e. (Err e, zeros l)) v
      go (Ok k) w = stopped_alike bundle l τ' e (read_from w q) (loaded_alike bundle l (short_bundle bundle w) (sheet_at bundle))

  pub load_ended : {u : Unit} → r ≡ Ok u → (Ok (counts_of τ'.tally), held_in τ') ≡ load_of bundle l
  unfolding load_of on_result
  load_ended q = go (check_of bundle) refl
    where
      go :
          (x : Result ℕ Refusal)
          → check_of bundle ≡ x
          → (Ok (counts_of τ'.tally), held_in τ')
          ≡ on_result x (λ e. (Err e, zeros l)) (λ count. loaded l (load_into (reading bundle) (capacities l) (sheet_at bundle)))
      go (Err x) w =
          let v : r ≡ Err x = h.0 x w in
          different cc
      go (Ok k) w = ended_alike bundle l τ' (read_from w q) (loaded_alike bundle l (short_bundle bundle w) (sheet_at bundle))

-- tables that are zeroed again
pub again_zero :
    (l k : Lengths) {h : Held} {e : Refusal} {w : Result Counts Refusal × Held}
    → h ≡ zeros k
    → k ≡ l
    → (Err e, zeros l) ≡ w
    → (Err e, h) ≡ w
again_zero l k {h} {e} z a q = ap (λ (h : Held). (Err e, h)) (z ∙ ap zeros a) ∙ q
