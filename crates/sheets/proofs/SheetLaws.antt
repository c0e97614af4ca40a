-- What was read of a colour definition, a statement or an import, and where it leads; the turns of a sheet.
use Prim.Native.Nat.{ℕ, zero, suc, ◌-◌, ◌<◌}
use native.Mathlib.Omega.{arith}
use mathlib.Core.Path.{◌≡◌, refl, sym, ap, subst, ◌∙◌}
use mathlib.Core.Bool.{not}
use mathlib.Core.List.{List, [], ◌∷◌, ◌++◌}
use mathlib.Core.Option.{none, some}
use lib.Dec.{T}
use types.Run.{OneOf}
use mir.Val.{has_key}
use denote.Enum.Declared.{tag_of}
use Rattle.base.specs.Bytes.{Bytes, within}
use Rattle.base.specs.declared.Range.{Range}
use Rattle.base.specs.declared.refusal.Refusal.{Refusal}
use Rattle.bundle.specs.Bundle.{find_of}
use Rattle.color.specs.declared.Color.{Color}
use Rattle.cursor.specs.Cursor.{start}
use Rattle.cursor.specs.declared.Cursor.{Cursor}
use Rattle.token_kind.specs.contracts.Token.{the_type}
use Rattle.token.specs.Elim.{on-Step, on_step}
use Rattle.token_kind.specs.declared.LexerError.{LexerError}
use Rattle.token.specs.declared.Step.{Step}
use Rattle.token.specs.declared.Step.TheVariants.{End, Took}
use Rattle.token_kind.specs.declared.Token.{Token}
use Rattle.grammar.specs.Token.{Name, Token as Token', semi_colon}
use Rattle.grammar.specs.Reading.{Reading, rule_item}
use Rattle.grammar.specs.View.{color_of}
use Rattle.grammar.specs.Reader.{keep_color, parse, import_file}
use Rattle.grammar.specs.Input.{color_entry, Answer, refused, read, broken, end, token, on_next, on_option, after, keep}
use Rattle.keep.specs.Lent.{Lent, color_kept, put_entry}
use Rattle.keep.proofs.KeepLaws.{is_full, is_put}
use Rattle.keep.specs.Source.{reading}
use Rattle.input.specs.Source.{Spot, spot, source, next_at}
use Rattle.input.specs.Text.{name_in, token_of, left, next_of, expect_of, place, refusal_at, reached_at, error_at}
use Rattle.input.specs.declared.Place.{Place}
use Rattle.input.specs.declared.Source.{Source}
use Rattle.input.proofs.Fuel.{next_moves}
use Rattle.input.proofs.TokenLaws.{others, not_color}
use Rattle.properties.specs.Answers.{Leads, stops, leads}
use Rattle.rules.specs.Rules.{RuleRead}
use Rattle.sheets.specs.Sheets.{DefinitionRead, Statements, bad_statement, end_of_text, import_of, color_of as color_at, rule_at, StatementRead, Parses, stopped, ended, SheetRead, ImportRead}
use Rattle.sheets.specs.declared.Statement.{Statement}
use Rattle.sheets.specs.declared.Statement.TheVariants.{EndOfText, ImportOf, ColorOf, RuleAt}
use Rattle.keep.proofs.Laws.{option_none, option_some, another, beyond}
use Rattle.properties.proofs.ValueLaws.{after_refused, after_done, lead_stop, lead_on}
use Rattle.properties.proofs.Turns.{Goes, goes_start, goes_end, goes_on}
use Rattle.std.specs.Prelude.{Some, None, Result, Ok, Err, Option}
use Rattle.base.specs.Option.{on_option as on_option', on_option2, on_result}

-- ---- storing a colour

module _ {A : Type 0} (Q : Answer A Spot Lent Refusal → Type 0) (bundle : Bytes) (s : Source) where
  pub no_room_color :
      (name : Range) (x : Color) (c : Cursor) (τ : Lent) (k : Lent → Answer A Spot Lent Refusal) {τ' : Lent}
      → color_kept bundle τ (within name bundle) name x ≡ (None, τ')
      → Q (refused (refusal_at 20 6 (reached_at s c)) τ)
      → Q (keep (reading bundle) (color_entry (name_in bundle name) x) (spot s c) τ k)
  unfolding put_entry color_kept
  no_room_color name x c τ k e q = option_none Q _ _ k (is_full _ _ _ e) q

  pub room_color :
      (name : Range) (x : Color) (c : Cursor) (τ : Lent) (k : Lent → Answer A Spot Lent Refusal) {y : Unit} {τ' : Lent}
      → color_kept bundle τ (within name bundle) name x ≡ (Some y, τ')
      → Q (k τ')
      → Q (keep (reading bundle) (color_entry (name_in bundle name) x) (spot s c) τ k)
  unfolding put_entry color_kept
  room_color name x c τ k e q = option_some Q _ _ k (is_put _ _ _ e) q

  -- a value that is known
  pub defined_as :
      (name : Range) (c : Cursor) (τ : Lent) (f : Token' → Lent → Answer A Spot Lent Refusal) {t v : Token}
      → t ≡ v
      → Q (keep_color (reading bundle) (name_in bundle name) (token_of bundle v) (spot s c) τ (f (token_of bundle v)))
      → Q (keep_color (reading bundle) (name_in bundle name) (token_of bundle t) (spot s c) τ (f (token_of bundle t)))
  defined_as name c τ f e q =
      subst (λ t. Q (keep_color (reading bundle) (name_in bundle name) (token_of bundle t) (spot s c) τ (f (token_of bundle t)))) (sym e) q

  -- a value that is no colour
  pub no_definition :
      (taken : List ℕ) (t : Token) (name : Range) (c : Cursor) (τ : Lent) (k : Lent → Answer A Spot Lent Refusal)
      → OneOf (others taken) (tag_of the_type t)
      → T (not (has_key (others taken) 6))
      → Q (k τ)
      → Q (keep_color (reading bundle) (name_in bundle name) (token_of bundle t) (spot s c) τ k)
  unfolding color_of on_option
  no_definition taken t name c τ k h m q =
      not_color bundle taken t h (λ o. Q (on_option o (k τ) λ x. keep (reading bundle) (color_entry (name_in bundle name) x) (spot s c) τ k)) some none m q

  -- ---- the next token, or the end

  module _ (c : Cursor) (f : Refusal → Answer A Spot Lent Refusal) (g : Spot → Answer A Spot Lent Refusal) (k : Token' → Place → Spot → Answer A Spot Lent Refusal) where
    by_step :
        {x : Result Step LexerError}
        → next_of bundle s c ≡ x
        → Q
        (on_next
        (on_step x
        (λ e. broken (error_at s e))
        (λ d. end (spot s d))
        (λ t line character d. token (token_of bundle t) (place s.number line character) (spot s d)))
        f g k)
        → Q (on_next ((reading bundle).next (spot s c)) f g k)
    unfolding next_at
    by_step h q =
        subst
        (λ x. Q
        (on_next
        (on_step x
        (λ e. broken (error_at s e))
        (λ d. end (spot s d))
        (λ t line character d. token (token_of bundle t) (place s.number line character) (spot s d)))
        f g k))
        (sym h) q

    pub stepped_wrong :
        {e : LexerError}
        → next_of bundle s c ≡ Err e
        → Q (f (error_at s e))
        → Q (on_next ((reading bundle).next (spot s c)) f g k)
    unfolding on-Step on_next on_result
    stepped_wrong h q = by_step h q

    pub stepped_end : {d : Cursor} → next_of bundle s c ≡ Ok (End d) → Q (g (spot s d)) → Q (on_next ((reading bundle).next (spot s c)) f g k)
    unfolding on-Step on_next on_result
    stepped_end h q = by_step h q

    pub stepped :
        {t : Token} {line character : ℕ} {d : Cursor}
        → next_of bundle s c ≡ Ok (Took t line character d)
        → (left bundle s d < left bundle s c → Q (k (token_of bundle t) (place s.number line character) (spot s d)))
        → Q (on_next ((reading bundle).next (spot s c)) f g k)
    unfolding on-Step on_next on_result
    stepped {t} {line} {character} {d} h q = by_step h (q (next_moves bundle s c d t line character h))

    -- a token that is known
    pub stepped_as :
        {t v : Token} {line character : ℕ} {d : Cursor}
        → next_of bundle s c ≡ Ok (Took t line character d)
        → t ≡ v
        → (left bundle s d < left bundle s c → Q (k (token_of bundle v) (place s.number line character) (spot s d)))
        → Q (on_next ((reading bundle).next (spot s c)) f g k)
    stepped_as {line = line} {character = character} {d = d} h e q = stepped (h ∙ ap (λ t. Ok (Took t line character d)) e) q

-- ---- the beginning of a statement

module _ {A : Type 0} (Q : Answer A Spot Lent Refusal → Type 0) {bundle : Bytes} {s : Source} {bound : ℕ} {E : Spot → Answer A Spot Lent Refusal} {I C : Name → Spot → Answer A Spot Lent Refusal} {R : Token' → Place → Spot → Answer A Spot Lent Refusal} {r : Result Statement Refusal} {a : Answer A Spot Lent Refusal} (h : Statements bundle s bound E I C R r a) where
  pub statement_bad : {e : Refusal} → r ≡ Err e → ((e' : Refusal) (τ : Lent) → e ≡ e' → Q (refused e' τ)) → Q a
  statement_bad {e} i k = go (rw i at h)
    where
      go : {a : Answer A Spot Lent Refusal} → Statements bundle s bound E I C R (Err e) a → Q a
      go (bad_statement {e' = y} {τ = τ} p) = k y τ p

  pub statement_end : r ≡ Ok EndOfText → ((d : Cursor) → Q (E (spot s d))) → Q a
  statement_end i k = go (rw i at h)
    where
      go : {a : Answer A Spot Lent Refusal} → Statements bundle s bound E I C R (Ok EndOfText) a → Q a
      go (end_of_text d) = k d

  pub statement_import : {x : Range} {d : Cursor} → r ≡ Ok (ImportOf x d) → (left bundle s d < bound → Q (I (name_in bundle x) (spot s d))) → Q a
  statement_import {x} {d} i k = go (rw i at h)
    where
      go : {a : Answer A Spot Lent Refusal} → Statements bundle s bound E I C R (Ok (ImportOf x d)) a → Q a
      go (import_of x d l) = k l

  pub statement_color : {x : Range} {d : Cursor} → r ≡ Ok (ColorOf x d) → (left bundle s d < bound → Q (C (name_in bundle x) (spot s d))) → Q a
  statement_color {x} {d} i k = go (rw i at h)
    where
      go : {a : Answer A Spot Lent Refusal} → Statements bundle s bound E I C R (Ok (ColorOf x d)) a → Q a
      go (color_at x d l) = k l

  pub statement_rule : {t : Token} {o : Place} {d : Cursor} → r ≡ Ok (RuleAt t o d) → (left bundle s d < bound → Q (R (token_of bundle t) o (spot s d))) → Q a
  statement_rule {t} {o} {d} i k = go (rw i at h)
    where
      go : {a : Answer A Spot Lent Refusal} → Statements bundle s bound E I C R (Ok (RuleAt t o d)) a → Q a
      go (rule_at t o d l) = k l

-- ---- what a whole text has read

module _ {B : Type 0} (Q : Answer B Spot Lent Refusal → Type 0) {then : Lent} {r : Result Unit Refusal} {a : Answer Reading Spot Lent Refusal} (k : Reading → Spot → Lent → Answer B Spot Lent Refusal) (h : Parses then r a) where
  after_stopped : {e : Refusal} → r ≡ Err e → ((e' : Refusal) (τ : Lent) → e ≡ e' → Q (refused e' τ)) → Q (after a k)
  unfolding after
  after_stopped {e} i f = go (rw i at h)
    where
      go : {a : Answer Reading Spot Lent Refusal} → Parses then (Err e) a → Q (after a k)
      go (stopped {e' = y} {τ = τ} p) = f y τ p

  after_ended : {u : Unit} → r ≡ Ok u → ((x : Reading) (p : Spot) → Q (k x p then)) → Q (after a k)
  unfolding after
  after_ended {u} i f = go (rw i at h)
    where
      go : {a : Answer Reading Spot Lent Refusal} → Parses then (Ok u) a → Q (after a k)
      go (ended {js = js} {p = p}) = f js p

-- what is read behind a statement, with the statement before it
before_parses : {then : Lent} {r : Result Unit Refusal} (js : Reading) (a : Answer Reading Spot Lent Refusal) → Parses then r a → Parses then r (after a λ ks c τ. read (js ++ ks) c τ)
unfolding after
before_parses js a (stopped e) = stopped e
before_parses js a ended = ended

-- ---- imports

module _ (Q : Answer Reading Spot Lent Refusal → Type 0) (bundle : Bytes) (s : Source) (name : Range) (d : Cursor) (τ : Lent) (K : Reading → Spot → Lent → Answer Reading Spot Lent Refusal) where
  abbrev found : ℕ → Option (ℕ × Range) → Answer Reading Spot Lent Refusal
  found zero x =
      on_option (on_option2 x none λ k r. some (spot (source k r) start)) (refused (refusal_at 5 0 (reached_at s d)) τ) λ p.
      refused (refusal_at 21 0 (reached_at s d)) τ
  found (suc k) x =
      on_option (on_option2 x none λ k r. some (spot (source k r) start)) (refused (refusal_at 5 0 (reached_at s d)) τ) λ p.
      parse (reading bundle) (import_file (reading bundle) k) (suc (left bundle p.source p.cursor)) p τ

  by_found :
      (depth : ℕ) {w : Bytes} {x : Option (ℕ × Range)}
      → find_of bundle w ≡ x
      → w ≡ within name bundle
      → Q (after (found depth x) K)
      → Q (after (import_file (reading bundle) depth (name_in bundle name) (spot s d) τ) K)
  unfolding import_file
  by_found zero e u q = subst (λ x. Q (after (found zero x) K)) (sym e ∙ ap (find_of bundle) u) q
  by_found (suc k) e u q = subst (λ x. Q (after (found (suc k) x) K)) (sym e ∙ ap (find_of bundle) u) q

  missing : (depth : ℕ) → Q (refused (refusal_at 5 0 (reached_at s d)) τ) → Q (after (found depth None) K)
  unfolding on_option on_option' after
  missing zero q = q
  missing (suc k) q = q

  too_deep_lem : (depth number : ℕ) (range : Range) → depth ≡ 0 → Q (refused (refusal_at 21 0 (reached_at s d)) τ) → Q (after (found depth (Some (number, range))) K)
  unfolding on_option on_option' after
  too_deep_lem zero number range e q = q
  too_deep_lem (suc k) number range e q = absurd (omega (arith, e))

  deeper :
      (depth number : ℕ) (range : Range)
      → (depth ≡ 0 → ⊥)
      → Q (after (parse (reading bundle) (import_file (reading bundle) (depth - 1)) (suc (left bundle (source number range) start)) (spot (source number range) start) τ) K)
      → Q (after (found depth (Some (number, range))) K)
  unfolding on_option on_option'
  deeper zero number range m q = absurd (m refl)
  deeper (suc k) number range m q =
      let e : suc k - 1 ≡ k = omega arith in
      subst (λ n. Q (after (parse (reading bundle) (import_file (reading bundle) n) (suc (left bundle (source number range) start)) (spot (source number range) start) τ) K)) e q

module _ (bundle : Bytes) (s : Source) (name : Range) (c : Cursor) (depth : ℕ) (τ : Lent) (then : Lent) where
  pub import_another : {e : Refusal} → expect_of bundle semi_colon s c ≡ Err e → ImportRead bundle name s c depth τ then (Err e)
  import_another h K = another (Leads bundle s (left bundle s c) then K _) bundle s semi_colon c τ _ h (stops refl)

  module _ {d : Cursor} {w : Bytes} (h : expect_of bundle semi_colon s c ≡ Ok d) (u : w ≡ within name bundle) where
    pub import_missing : {e : Refusal} → find_of bundle w ≡ None → e ≡ refusal_at 5 0 (reached_at s d) → ImportRead bundle name s c depth τ then (Err e)
    import_missing f x K =
        beyond (Leads bundle s (left bundle s c) then K _) bundle s semi_colon c τ _ h λ m.
        by_found (Leads bundle s (left bundle s c) then K _) bundle s name d τ _ depth f u
        (missing (Leads bundle s (left bundle s c) then K _) bundle s name d τ _ depth (stops x))

    module _ {number : ℕ} {range : Range} (f : find_of bundle w ≡ Some (number, range)) where
      pub import_deep : {e : Refusal} → depth ≡ 0 → e ≡ refusal_at 21 0 (reached_at s d) → ImportRead bundle name s c depth τ then (Err e)
      import_deep z x K =
          beyond (Leads bundle s (left bundle s c) then K _) bundle s semi_colon c τ _ h λ m.
          by_found (Leads bundle s (left bundle s c) then K _) bundle s name d τ _ depth f u
          (too_deep_lem (Leads bundle s (left bundle s c) then K _) bundle s name d τ _ depth number range z (stops x))

      pub import_stopped :
          {r : Result Unit Refusal} {e : Refusal}
          → (depth ≡ 0 → ⊥)
          → SheetRead bundle (source number range) (depth - 1) τ then r
          → r ≡ Err e
          → ImportRead bundle name s c depth τ then (Err e)
      import_stopped z p x K =
          beyond (Leads bundle s (left bundle s c) then K _) bundle s semi_colon c τ _ h λ m.
          by_found (Leads bundle s (left bundle s c) then K _) bundle s name d τ _ depth f u
          (deeper (Leads bundle s (left bundle s c) then K _) bundle s name d τ _ depth number range z
          (after_stopped (Leads bundle s (left bundle s c) then K _) _ p x λ e τ q. stops q))

      pub import_ended :
          {r : Result Unit Refusal} {u : Unit}
          → (depth ≡ 0 → ⊥)
          → SheetRead bundle (source number range) (depth - 1) τ then r
          → r ≡ Ok u
          → ImportRead bundle name s c depth τ then (Ok d)
      import_ended z p x K =
          beyond (Leads bundle s (left bundle s c) then K _) bundle s semi_colon c τ _ h λ m.
          by_found (Leads bundle s (left bundle s c) then K _) bundle s name d τ _ depth f u
          (deeper (Leads bundle s (left bundle s c) then K _) bundle s name d τ _ depth number range z
          (after_ended (Leads bundle s (left bundle s c) then K _) _ p x λ js q. leads js d (omega arith)))

-- ---- each statement takes a byte at least

module _ (bundle : Bytes) (s : Source) where
  pub import_less :
      (depth : ℕ) (at : Cursor) (τ : Lent) {st : Result Statement Refusal} {a : Range} {d f : Cursor} {r : Result Cursor Refusal} {then : Lent}
      → StatementRead bundle s at st
      → st ≡ Ok (ImportOf a d)
      → ImportRead bundle a s d depth τ then r
      → r ≡ Ok f
      → left bundle s f < left bundle s at
  import_less depth at τ {f = f} h x i y =
      statement_import (λ z. left bundle s f < left bundle s at) (h τ (λ d. read [] d τ) (λ n d. read [] d τ) (λ n d. read [] d τ) (λ t o d. read [] d τ)) x λ l.
      lead_on (λ z. left bundle s f < left bundle s at) (i λ js e τ. read [] e τ) y λ js v. omega arith

  pub color_less :
      (at : Cursor) (τ : Lent) {then : Lent} {st : Result Statement Refusal} {a : Range} {d f : Cursor} {r : Result Cursor Refusal}
      → StatementRead bundle s at st
      → st ≡ Ok (ColorOf a d)
      → DefinitionRead bundle s a d τ then r
      → r ≡ Ok f
      → left bundle s f < left bundle s at
  color_less at τ {f = f} h x i y =
      statement_color (λ z. left bundle s f < left bundle s at) (h τ (λ d. read [] d τ) (λ n d. read [] d τ) (λ n d. read [] d τ) (λ t o d. read [] d τ)) x λ l.
      after_done {B = Reading} (λ z. left bundle s f < left bundle s at) (λ js e τ. read [] e τ) i y λ js v. omega arith

  pub rule_less :
      (at : Cursor) (τ : Lent) {st : Result Statement Refusal} {t : Token} {o : Place} {d f : Cursor} {r : Result Cursor Refusal} {then : Lent}
      → StatementRead bundle s at st
      → st ≡ Ok (RuleAt t o d)
      → RuleRead bundle s t o d τ then r
      → r ≡ Ok f
      → left bundle s f < left bundle s at
  rule_less at τ {d = d} {f = f} h x i y =
      statement_rule (λ z. left bundle s f < left bundle s at) (h τ (λ d. read [] d τ) (λ n d. read [] d τ) (λ n d. read [] d τ) (λ t o d. read [] d τ)) x λ l.
      after_done {B = Reading} (λ z. left bundle s f < left bundle s at) (λ js e τ. read [] e τ) (i (suc (left bundle s d)) (omega arith)) y λ js v. omega arith

-- ---- the turns of a sheet

module _ (bundle : Bytes) (s : Source) (depth : ℕ) (τ₀ : Lent) where
  abbrev whole_of : Answer Reading Spot Lent Refusal
  whole_of = parse (reading bundle) (import_file (reading bundle) depth) (suc (left bundle s start)) (spot s start) τ₀

  -- what is left from a cursor on leads to the answer of the whole
  abbrev pub Parsing : Cursor → Lent → Type 0
  Parsing at τ =
      Goes (λ b t r a. Parses t r a) bundle s (left bundle s start) whole_of at
      (λ f. parse (reading bundle) (import_file (reading bundle) depth) f (spot s at) τ)

  pub parse_starts : {at : Cursor} → at ≡ start → Parsing at τ₀
  parse_starts e =
      subst (λ at. Parsing at τ₀) (sym e)
      (goes_start (λ b t r a. Parses t r a) bundle s start (λ f. parse (reading bundle) (import_file (reading bundle) depth) f (spot s start) τ₀) (suc (left bundle s start)) (omega arith))

  pub parse_bad : (at : Cursor) (τ : Lent) {st : Result Statement Refusal} {e : Refusal} {then : Lent} → Parsing at τ → StatementRead bundle s at st → st ≡ Err e → Parses then (Err e) whole_of
  unfolding parse
  parse_bad at τ g h x = goes_end (λ b t r a. Parses t r a) bundle s _ _ at _ g λ k l. statement_bad (Parses _ _) (h _ _ _ _ _) x λ e τ p. stopped p

  pub parse_ends : (at : Cursor) {st : Result Statement Refusal} {then : Lent} → Parsing at then → StatementRead bundle s at st → st ≡ Ok EndOfText → Parses then (Ok tt) whole_of
  unfolding parse
  parse_ends at g h x = goes_end (λ b t r a. Parses t r a) bundle s _ _ at _ g λ k l. statement_end (Parses _ _) (h _ _ _ _ _) x λ d. ended

  -- an import
  module _ (at : Cursor) (τ : Lent) {st : Result Statement Refusal} {a : Range} {d : Cursor} {r : Result Cursor Refusal} {then : Lent} (h : StatementRead bundle s at st) (x : st ≡ Ok (ImportOf a d)) (i : ImportRead bundle a s d depth τ then r) where
    pub import_stops : {e : Refusal} {others : Lent} → Parsing at τ → r ≡ Err e → Parses others (Err e) whole_of
    unfolding parse
    import_stops g y =
        goes_end (λ b t r a. Parses t r a) bundle s _ _ at _ g λ k l.
        statement_import (Parses _ _) (h _ _ _ _ _) x λ m.
        lead_stop (Parses _ _) (i _) y λ e τ p. stopped p

    pub import_on : {f : Cursor} → Parsing at τ → r ≡ Ok f → Parsing f then
    unfolding parse
    import_on {f} g y =
        goes_on (λ b t r a. Parses t r a) bundle s _ _ at f _ _ g (import_less bundle s depth at τ h x i y) λ k l t r q.
        statement_import (Parses _ _) (h _ _ _ _ _) x λ m.
        lead_on (Parses _ _) (i _) y λ js l. before_parses js _ q

  -- a colour definition
  module _ (at : Cursor) (τ : Lent) {then : Lent} {st : Result Statement Refusal} {a : Range} {d : Cursor} {r : Result Cursor Refusal} (h : StatementRead bundle s at st) (x : st ≡ Ok (ColorOf a d)) (i : DefinitionRead bundle s a d τ then r) where
    pub color_stops : {e : Refusal} {others : Lent} → Parsing at τ → r ≡ Err e → Parses others (Err e) whole_of
    unfolding parse
    color_stops g y =
        goes_end (λ b t r a. Parses t r a) bundle s _ _ at _ g λ k l.
        statement_color (Parses _ _) (h _ _ _ _ _) x λ m.
        after_refused (Parses _ _) _ i y λ e τ p. stopped p

    pub color_on : {f : Cursor} → Parsing at τ → r ≡ Ok f → Parsing f then
    unfolding parse
    color_on {f} g y =
        goes_on (λ b t r a. Parses t r a) bundle s _ _ at f _ _ g (color_less bundle s at τ h x i y) λ k l t r q.
        statement_color (Parses _ _) (h _ _ _ _ _) x λ m.
        after_done (Parses _ _) _ i y λ js l. before_parses js _ q

  -- a rule
  module _ (at : Cursor) (τ : Lent) {st : Result Statement Refusal} {t : Token} {o : Place} {d : Cursor} {r : Result Cursor Refusal} {then : Lent} (h : StatementRead bundle s at st) (x : st ≡ Ok (RuleAt t o d)) (i : RuleRead bundle s t o d τ then r) where
    pub rule_stops : {e : Refusal} {others : Lent} → Parsing at τ → r ≡ Err e → Parses others (Err e) whole_of
    unfolding parse
    rule_stops g y =
        goes_end (λ b t r a. Parses t r a) bundle s _ _ at _ g λ k l.
        statement_rule (Parses _ _) (h _ _ _ _ _) x λ m.
        after_refused (Parses _ _) _ (i k (omega arith)) y λ e τ p. stopped p

    pub rule_on : {f : Cursor} → Parsing at τ → r ≡ Ok f → Parsing f then
    unfolding parse
    rule_on {f} g y =
        goes_on (λ b t r a. Parses t r a) bundle s _ _ at f _ _ g (rule_less bundle s at τ h x i y) λ k l t r q.
        statement_rule (Parses _ _) (h _ _ _ _ _) x λ m.
        after_done (Parses _ _) _ (i k (omega arith)) y λ js l. before_parses (rule_item js ∷ []) _ q
