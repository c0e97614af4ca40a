-- What holds of every load, from the grammar's theorems on the reader.
use Prim.Native.Nat.{ℕ}
use mathlib.Core.Path.{◌≡◌, refl, sym, ap, ◌∙◌}
use mathlib.Core.Bool.{true}
use mathlib.Core.List.{List}
use lib.ListN.{length}
use Rattle.base.specs.Bytes.{Bytes}
use Rattle.base.specs.Choice.{different}
use Rattle.base.specs.declared.refusal.Refusal.{Refusal}
use Rattle.bundle.specs.Bundle.{check_of}
use Rattle.grammar.specs.Accepted.{load_into}
use Rattle.grammar.proofs.AcceptedProof.{accepted, accepts, one_reading}
use Rattle.grammar.specs.Capacity.{Tables, tables_of}
use Rattle.grammar.specs.Input.{Answer, refused, read}
use Rattle.grammar.specs.Reading.{Reading}
use Rattle.input.proofs.Fuel.{fueled}
use Rattle.keep.specs.Encode.{Lengths, capacities, tally_of, lent_of}
use Rattle.keep.specs.Lent.{lent_store}
use Rattle.keep.specs.Source.{reading}
use Rattle.input.specs.Source.{Spot}
use Rattle.parser.proofs.LoadLaws.{short_bundle}
use Rattle.parser.specs.Load.{Held, zeros, held_in, counts_of, sheet_at, loaded, load_of}
use Rattle.parser.specs.declared.Counts.{Counts}
use Rattle.decode.proofs.Spells.{filled_spell}
use Rattle.decode.specs.Decode.{rules_at}
use Rattle.sheet.specs.Sheet.{Rule, Value}
use Rattle.sound.proofs.Drawn.{reading_drawn, reading_lies}
use Rattle.sound.proofs.Passing.{tables_pass}
use Rattle.valid.specs.Valid.{tables_sound}
use Rattle.printing.specs.Plate.{five_of}
use Rattle.mapcss.specs.Loads.{counts_for, tables_for, spelled_by, Loads, Sound, Spelled, Complete, Exactly, OneReading, RefusalZeroes, NeverBroken}
use Rattle.mapcss.proofs.Sheets.{reads_as, as_reads}
use Rattle.std.specs.Prelude.{Result, Ok, Err}
use Rattle.base.specs.Option.{on_result}

read_loads :
    (bundle : Bytes) (l : Lengths) (n : Counts) (h : Held) (texts : ℕ)
    → check_of bundle ≡ Ok texts
    → (a : Answer Reading Spot Tables Refusal)
    → load_into (reading bundle) (capacities l) (sheet_at bundle) ≡ a
    → loaded l a ≡ (Ok n, h)
    → Loads bundle l n h
unfolding loaded
read_loads bundle l n h texts c (refused e υ) q w =
    let z : Err e ≡ Ok n = ap (λ (x : Result Counts Refusal × Held). x.0) w in
    different cc
read_loads bundle l n h texts c (read js f υ) q w =
    let a = accepted (reading bundle) (capacities l) (sheet_at bundle) f js υ q in
    let u : υ ≡ tables_of js = a.1.1 in
    let z : Ok (counts_of (tally_of υ)) ≡ Ok n = ap (λ (x : Result Counts Refusal × Held). x.0) w in
    let v : counts_of (tally_of υ) ≡ n = cc in
    record {
      texts = texts;
      checked = c;
      js = js;
      is_sheet_lem = reads_as bundle js a.0;
      fits = a.1.0;
      counted = sym v ∙ ap (λ (υ : Tables). counts_of (tally_of υ)) u;
      tables = sym (ap (λ (x : Result Counts Refusal × Held). x.1) w) ∙ ap (λ (υ : Tables). held_in (lent_of l υ)) u;
    }

pub sound : Sound
unfolding load_of on_result
sound bundle l n h e = go (check_of bundle) refl e
  where
    go :
        (x : Result ℕ Refusal)
        → check_of bundle ≡ x
        → on_result x (λ e. (Err e, zeros l)) (λ count. loaded l (load_into (reading bundle) (capacities l) (sheet_at bundle))) ≡ (Ok n, h)
        → Loads bundle l n h
    go (Err y) q w =
        let z : Err y ≡ Ok n = ap (λ (x : Result Counts Refusal × Held). x.0) w in
        different cc
    go (Ok k) q w = read_loads bundle l n h k q _ refl w

pub complete : Complete
unfolding load_of on_result loaded
complete bundle l texts js c r b =
    let a = accepts (reading bundle) (fueled bundle (lent_store bundle)) (capacities l) (sheet_at bundle) js (as_reads bundle js r) b in
    ap (λ x. on_result x (λ e. (Err e, zeros l)) (λ count. loaded l (load_into (reading bundle) (capacities l) (sheet_at bundle)))) c
    ∙ ap (loaded l) a.1

pub one_reading_each : OneReading
one_reading_each bundle js ks a b = one_reading (reading bundle) (fueled bundle (lent_store bundle)) (sheet_at bundle) js ks (as_reads bundle js a) (as_reads bundle ks b)

refused_zero :
    (l : Lengths) (e : Refusal) (h : Held) (a : Answer Reading Spot Tables Refusal)
    → loaded l a ≡ (Err e, h)
    → h ≡ zeros l
unfolding loaded
refused_zero l e h (refused x υ) w = sym (ap (λ (x : Result Counts Refusal × Held). x.1) w)
refused_zero l e h (read js f υ) w =
    let z : Ok (counts_of (tally_of υ)) ≡ Err e = ap (λ (x : Result Counts Refusal × Held). x.0) w in
    different cc

pub refusal_zeroes : RefusalZeroes
unfolding load_of on_result
refusal_zeroes bundle l e h w = go (check_of bundle) w
  where
    go :
        (x : Result ℕ Refusal)
        → on_result x (λ e. (Err e, zeros l)) (λ count. loaded l (load_into (reading bundle) (capacities l) (sheet_at bundle))) ≡ (Err e, h)
        → h ≡ zeros l
    go (Err y) w = sym (ap (λ (x : Result Counts Refusal × Held). x.1) w)
    go (Ok k) w = refused_zero l e h (load_into (reading bundle) (capacities l) (sheet_at bundle)) w

-- ---- never 22

same_tables :
    (b : ℕ) {n n' : Counts} {h h' : Held}
    → n ≡ n'
    → h ≡ h'
    → tables_sound h'.rules h'.selectors h'.tests h'.properties h'.numbers (five_of n') b ≡ true
    → tables_sound h.rules h.selectors h.tests h.properties h.numbers (five_of n) b ≡ true
same_tables b e f q = rw (e, f) q

pub never_broken : NeverBroken
never_broken bundle l n h e =
    let s = sound bundle l n h e in
    same_tables (length bundle) s.counted s.tables
    (tables_pass (length bundle) (short_bundle bundle s.checked) l s.js s.fits (reading_lies bundle (lent_store bundle) (sheet_at bundle) s.js (as_reads bundle s.js s.is_sheet_lem)))

-- ---- the rules

same_rules :
    (bundle : Bytes) {n n' : Counts} {h h' : Held} {rs : List (Rule Value)}
    → n ≡ n'
    → h ≡ h'
    → spelled_by bundle n' h' ≡ rs
    → spelled_by bundle n h ≡ rs
same_rules bundle e f q = rw (e, f) q

-- of the counts only that of the rules is read
counted_rules :
    (bundle : Bytes) (l : Lengths) (js : Reading)
    → spelled_by bundle (counts_for js) (tables_for l js) ≡ rules_at bundle (lent_of l (tables_of js))
unfolding rules_at
counted_rules bundle l js = refl

pub rules_spelled : Spelled
rules_spelled bundle l n h s =
    same_rules bundle s.counted s.tables
    (counted_rules bundle l s.js
    ∙ filled_spell bundle (short_bundle bundle s.checked) l s.js s.fits
    (reading_drawn bundle (lent_store bundle) (sheet_at bundle) s.js (as_reads bundle s.js s.is_sheet_lem)))

pub exactly : Exactly
exactly bundle l n h = (
  sound bundle l n h,
  λ s. (
    complete bundle l s.texts s.js s.checked s.is_sheet_lem s.fits ∙ sym (ap (λ n. (Ok n, h)) s.counted ∙ ap (λ h. (Ok (counts_for s.js), h)) s.tables),
    rules_spelled bundle l n h s,
  ),
)
