-- What was read of a selector or a rule, and where it leads.
use Prim.Native.Nat.{ℕ, suc, ◌<◌, ◌≤◌}
use native.Mathlib.Omega.{arith}
use mathlib.Core.Path.{◌≡◌, refl, sym, ap, subst, ◌∙◌}
use mathlib.Core.Bool.{Bool, false, cond}
use mathlib.Core.List.{List, [], ◌∷◌}
use mathlib.Core.Option.{Option as Option', none, some}
use Rattle.base.specs.Bytes.{Bytes}
use Rattle.base.specs.Choice.{different}
use Rattle.base.specs.declared.Range.{Range}
use Rattle.base.specs.declared.refusal.Refusal.{Refusal}
use Rattle.cursor.specs.declared.Cursor.{Cursor}
use Rattle.sheet.specs.Sheet.{ObjectType, all}
use Rattle.token_kind.specs.declared.Token.{Token}
use Rattle.grammar.specs.Token.{Token as Token', left_brace}
use Rattle.grammar.specs.Reading.{Selector, Rule, Colors, bare, add_selector, with_zoom, with_test, with_layer, Test, id_to_object_type}
use Rattle.grammar.specs.Input.{selector_entry, rule_entry, Answer, refused, read, on_option, after, keep}
use Rattle.grammar.specs.Reader.{is_colors, read_mandatory_token, read_test, keep_selector, read_parts, read_selector, read_body, read_block, read_rule}
use types.Run.{OneOf}
use denote.Enum.Declared.{tag_of}
use Rattle.token_kind.specs.contracts.Token.{the_type}
use Rattle.input.proofs.TokenLaws.{others, not_sign, not_identifier}
use Rattle.keep.proofs.Laws.{option_none, option_some, no_way}
use Rattle.keep.specs.Answers.{Reads, done}
use Rattle.keep.specs.Lent.{Lent, type_number, level_in, layer_in, colors_of, selector_kept, rule_kept, put_entry}
use Rattle.keep.proofs.KeepLaws.{is_full, is_put}
use Rattle.keep.specs.Source.{reading}
use Rattle.input.specs.Source.{Spot, spot}
use Rattle.input.specs.Text.{left, name_in, level_of, token_of, refusal_at, reached_at}
use Rattle.input.specs.declared.Place.{Place}
use Rattle.input.specs.declared.Source.{Source}
use Rattle.table.specs.declared.kind.ObjectKind.{ObjectKind}
use Rattle.rules.proofs.KindLaws.{same_number}
use Rattle.table.specs.Kind.{object_number}
use Rattle.rules.specs.Kind.{object_kind, kind_of, Skips, unskipped, skipped}
use Rattle.properties.proofs.Turns.{Goes, goes_on}
use Rattle.rules.specs.Rules.{Ways, Parts, bad_part, is_closing, is_zoom, is_bracket, is_class, is_layer, Shown, Selects, no_selector, one_selector, Choice, Chooses, unchosen, last_chosen, next_chosen, Starts, bad_start, body, colors_block, object, start_of, PartRead, ChoiceRead, StartRead, BodyRead}
use Rattle.rules.specs.declared.Part.{Part}
use Rattle.rules.specs.declared.Part.TheVariants.{Closing, Zoom, Bracket, Class, Layer}
use Rattle.rules.specs.declared.Start.{Start}
use Rattle.rules.specs.declared.Start.TheVariants.{Body, ColorsBlock, Object}
use Rattle.std.specs.Prelude.{Option, Some, None, Result, Ok, Err}

-- ---- parts

pub widen_part :
    {bundle : Bytes} {s : Source} {b b' : ℕ} {w : Ways} {r : Result Part Refusal} {a : Answer (Selector × Bool) Spot Lent Refusal}
    → b ≤ b'
    → Parts bundle s b w r a
    → Parts bundle s b' w r a
widen_part h (bad_part e) = bad_part e
widen_part h (is_closing x d l) = is_closing x d (omega arith)
widen_part h (is_zoom x y d l) = is_zoom x y d (omega arith)
widen_part h (is_bracket d l) = is_bracket d (omega arith)
widen_part h (is_class d l) = is_class d (omega arith)
widen_part h (is_layer a d l) = is_layer a d (omega arith)

-- the place behind a part, and what it leads to
abbrev pub behind : Part → Cursor
behind (Closing x d) = d
behind (Zoom x y d) = d
behind (Bracket d) = d
behind (Class d) = d
behind (Layer x d) = d

abbrev pub way : Bytes → Source → Ways → Part → Answer (Selector × Bool) Spot Lent Refusal
way bundle s w (Closing x d) = w.end x (spot s d)
way bundle s w (Zoom x y d) = w.zoom (level_of x) (level_of y) (spot s d)
way bundle s w (Bracket d) = w.bracket (spot s d)
way bundle s w (Class d) = w.class (spot s d)
way bundle s w (Layer x d) = w.layer (name_in bundle x) (spot s d)

module _ (Q : Answer (Selector × Bool) Spot Lent Refusal → Type 0) (bundle : Bytes) (s : Source) (b : ℕ) (w : Ways) where
  part_bad :
      {r : Result Part Refusal} {a : Answer (Selector × Bool) Spot Lent Refusal} {e : Refusal}
      → Parts bundle s b w r a
      → r ≡ Err e
      → ((e' : Refusal) (τ : Lent) → e ≡ e' → Q (refused e' τ))
      → Q a
  part_bad {e = e} h i k = go (rw i at h)
    where
      go : {a : Answer (Selector × Bool) Spot Lent Refusal} → Parts bundle s b w (Err e) a → Q a
      go (bad_part {e' = y} {τ = τ} p) = k y τ p

  -- less is left behind a part
  abbrev Leads : Part → Type 0
  Leads p = left bundle s (behind p) < b → Q (way bundle s w p)

  part_good :
      {r : Result Part Refusal} {a : Answer (Selector × Bool) Spot Lent Refusal} {p : Part}
      → Parts bundle s b w r a
      → r ≡ Ok p
      → Leads p
      → Q a
  part_good h i = go (rw i at h)
    where
      go : {p : Part} {a : Answer (Selector × Bool) Spot Lent Refusal} → Parts bundle s b w (Ok p) a → Leads p → Q a
      go (is_closing x d l) k = k l
      go (is_zoom x y d l) k = k l
      go (is_bracket d l) k = k l
      go (is_class d l) k = k l
      go (is_layer x d l) k = k l

-- ---- the words of a selector, as its parts come

pub level_shown : (z : Option ℕ) → level_in (level_of z) ≡ z
level_shown None = refl
level_shown (Some n) = refl

pub shown_bare : (y : ObjectType) {kind : ℕ} → type_number y ≡ kind → Shown (bare y) kind None None None
shown_bare y e = record { type_is = e; min_is = refl; max_is = refl; layer_is = refl }

module _ {σ : Selector} {kind : ℕ} {min max : Option ℕ} {layer : Option Range} (h : Shown σ kind min max layer) where
  pub shown_zoom : (a b : Option ℕ) → Shown (with_zoom σ (level_of a) (level_of b)) kind a b layer
  shown_zoom a b = record { type_is = h.type_is; min_is = level_shown a; max_is = level_shown b; layer_is = h.layer_is }

  pub shown_layer : (bundle : Bytes) (a : Range) → Shown (with_layer σ (name_in bundle a)) kind min max (Some a)
  shown_layer bundle a = record { type_is = h.type_is; min_is = h.min_is; max_is = h.max_is; layer_is = refl }

  pub shown_test : (x : Test) → Shown (with_test σ x) kind min max layer
  shown_test x = record { type_is = h.type_is; min_is = h.min_is; max_is = h.max_is; layer_is = h.layer_is }

-- ---- selectors

pub widen_selector :
    {bundle : Bytes} {s : Source} {b b' : ℕ} {then : Lent} {r : Result (Bool × Cursor) Refusal} {a : Answer (Selector × Bool) Spot Lent Refusal}
    → b ≤ b'
    → Selects bundle s b then r a
    → Selects bundle s b' then r a
widen_selector h (no_selector e) = no_selector e
widen_selector h (one_selector x d l) = one_selector x d (omega arith)

module _ {B : Type 0} (Q : Answer B Spot Lent Refusal → Type 0) {bundle : Bytes} {s : Source} {b : ℕ} {then : Lent} (k : Selector × Bool → Spot → Lent → Answer B Spot Lent Refusal) where
  pub after_unselected :
      {r : Result (Bool × Cursor) Refusal} {a : Answer (Selector × Bool) Spot Lent Refusal} {e : Refusal}
      → Selects bundle s b then r a
      → r ≡ Err e
      → ((e' : Refusal) (τ : Lent) → e ≡ e' → Q (refused e' τ))
      → Q (after a k)
  unfolding after
  after_unselected {e = e} h i f = go (rw i at h)
    where
      go : {a : Answer (Selector × Bool) Spot Lent Refusal} → Selects bundle s b then (Err e) a → Q (after a k)
      go (no_selector {e' = y} {τ = τ} p) = f y τ p

  pub after_selected :
      {r : Result (Bool × Cursor) Refusal} {a : Answer (Selector × Bool) Spot Lent Refusal} {x : Bool} {d : Cursor}
      → Selects bundle s b then r a
      → r ≡ Ok (x, d)
      → ((σ : Selector) → left bundle s d ≤ b → Q (k (σ, x) (spot s d) then))
      → Q (after a k)
  unfolding after
  after_selected {x = x} {d} h i f = go (rw i at h)
    where
      go : {a : Answer (Selector × Bool) Spot Lent Refusal} → Selects bundle s b then (Ok (x, d)) a → Q (after a k)
      go (one_selector {σ = σ} x d l) = f σ l

pub widen_choice :
    {bundle : Bytes} {s : Source} {b b' : ℕ} {then : Lent} {L : Selector → Spot → Lent → Answer Rule Spot Lent Refusal} {N : Selector → Token' → Place → Spot → Lent → Answer Rule Spot Lent Refusal} {r : Result Choice Refusal} {a : Answer Rule Spot Lent Refusal}
    → b ≤ b'
    → Chooses bundle s b then L N r a
    → Chooses bundle s b' then L N r a
widen_choice h (unchosen e) = unchosen e
widen_choice h (last_chosen σ d l) = last_chosen σ d (omega arith)
widen_choice h (next_chosen σ t o d l) = next_chosen σ t o d (omega arith)

module _ (Q : Answer Rule Spot Lent Refusal → Type 0) {bundle : Bytes} {s : Source} {b : ℕ} {then : Lent} {L : Selector → Spot → Lent → Answer Rule Spot Lent Refusal} {N : Selector → Token' → Place → Spot → Lent → Answer Rule Spot Lent Refusal} where
  pub choice_none :
      {r : Result Choice Refusal} {a : Answer Rule Spot Lent Refusal} {e : Refusal}
      → Chooses bundle s b then L N r a
      → r ≡ Err e
      → ((e' : Refusal) (τ : Lent) → e ≡ e' → Q (refused e' τ))
      → Q a
  choice_none {e = e} h i k = go (rw i at h)
    where
      go : {a : Answer Rule Spot Lent Refusal} → Chooses bundle s b then L N (Err e) a → Q a
      go (unchosen {e' = y} {τ = τ} p) = k y τ p

  pub choice_last :
      {r : Result Choice Refusal} {a : Answer Rule Spot Lent Refusal} {d : Cursor}
      → Chooses bundle s b then L N r a
      → r ≡ Ok (None, d)
      → ((σ : Selector) → left bundle s d ≤ b → Q (L σ (spot s d) then))
      → Q a
  choice_last {d = d} h i k = go (rw i at h)
    where
      go : {a : Answer Rule Spot Lent Refusal} → Chooses bundle s b then L N (Ok (None, d)) a → Q a
      go (last_chosen σ d l) = k σ l

  pub choice_next :
      {r : Result Choice Refusal} {a : Answer Rule Spot Lent Refusal} {t : Token} {o : Place} {d : Cursor}
      → Chooses bundle s b then L N r a
      → r ≡ Ok (Some (t, o), d)
      → ((σ : Selector) → left bundle s d < b → Q (N σ (token_of bundle t) o (spot s d) then))
      → Q a
  choice_next {t = t} {o} {d} h i k = go (rw i at h)
    where
      go : {a : Answer Rule Spot Lent Refusal} → Chooses bundle s b then L N (Ok (Some (t, o), d)) a → Q a
      go (next_chosen σ t o d l) = k σ l

-- ---- the start of a selector

module _ (Q : Answer Rule Spot Lent Refusal → Type 0) {B C : Answer Rule Spot Lent Refusal} {O : ObjectType → Answer (Selector × Bool) Spot Lent Refusal} {K : Selector × Bool → Spot → Lent → Answer Rule Spot Lent Refusal} where
  pub start_bad :
      {r : Result Start Refusal} {a : Answer Rule Spot Lent Refusal} {e : Refusal}
      → Starts B C O K r a
      → r ≡ Err e
      → ((e' : Refusal) (τ : Lent) → e ≡ e' → Q (refused e' τ))
      → Q a
  start_bad {e = e} h i k = go (rw i at h)
    where
      go : {a : Answer Rule Spot Lent Refusal} → Starts B C O K (Err e) a → Q a
      go (bad_start {e' = y} {τ = τ} p) = k y τ p

  pub start_body : {r : Result Start Refusal} {a : Answer Rule Spot Lent Refusal} → Starts B C O K r a → r ≡ Ok Body → Q B → Q a
  start_body h i q = go (rw i at h)
    where
      go : {a : Answer Rule Spot Lent Refusal} → Starts B C O K (Ok Body) a → Q a
      go body = q

  pub start_colors : {r : Result Start Refusal} {a : Answer Rule Spot Lent Refusal} → Starts B C O K r a → r ≡ Ok ColorsBlock → Q C → Q a
  start_colors h i q = go (rw i at h)
    where
      go : {a : Answer Rule Spot Lent Refusal} → Starts B C O K (Ok ColorsBlock) a → Q a
      go colors_block = q

  pub start_object :
      {r : Result Start Refusal} {a : Answer Rule Spot Lent Refusal} {kind : ObjectKind}
      → Starts B C O K r a
      → r ≡ Ok (Object kind)
      → ((y : ObjectType) → type_number y ≡ object_number kind → Q (after (O y) K))
      → Q a
  start_object {kind = kind} h i k = go (rw i at h)
    where
      go : {a : Answer Rule Spot Lent Refusal} → Starts B C O K (Ok (Object kind)) a → Q a
      go (object y p) = k y p

pub start_as :
    (Q : Answer Rule Spot Lent Refusal → Type 0) (bundle : Bytes) (o : Place) (τ : Lent) (B C : Answer Rule Spot Lent Refusal) (O : ObjectType → Answer (Selector × Bool) Spot Lent Refusal) (K : Selector × Bool → Spot → Lent → Answer Rule Spot Lent Refusal) {t v : Token}
    → t ≡ v
    → Q (start_of bundle o τ B C O K (token_of bundle v))
    → Q (start_of bundle o τ B C O K (token_of bundle t))
start_as Q bundle o τ B C O K e q = subst (λ t. Q (start_of bundle o τ B C O K (token_of bundle t))) (sym e) q

pub start_none :
    (Q : Answer Rule Spot Lent Refusal → Type 0) (bundle : Bytes) (o : Place) (τ : Lent) (B C : Answer Rule Spot Lent Refusal) (O : ObjectType → Answer (Selector × Bool) Spot Lent Refusal) (K : Selector × Bool → Spot → Lent → Answer Rule Spot Lent Refusal) (t : Token)
    → OneOf (others (1 ∷ 11 ∷ [])) (tag_of the_type t)
    → Q (refused (refusal_at 4 3 o) τ)
    → Q (start_of bundle o τ B C O K (token_of bundle t))
unfolding start_of is_colors after
start_none Q bundle o τ B C O K t k q =
    no_way Q _ _ _ (not_sign bundle (1 ∷ 11 ∷ []) t k left_brace tt)
    (no_way Q _ _ _ (not_identifier bundle (1 ∷ 11 ∷ []) t k (λ (x : Bool). x ≡ false) _ _ tt refl)
    (not_identifier bundle (1 ∷ 11 ∷ []) t k (λ (x : Answer (Selector × Bool) Spot Lent Refusal). Q (after x K)) _ _ tt q))

-- what a selector's parts lead to
abbrev pub ways_of : Bytes → ℕ → Selector → Lent → Ways
ways_of bundle k σ τ =
    record {
      end = λ b d. keep_selector (reading bundle) σ b d τ;
      zoom = λ a b d. read_parts (reading bundle) k (with_zoom σ a b) d τ;
      bracket = λ d. after (read_test (reading bundle) d τ) λ x e τ. read_parts (reading bundle) k (with_test σ x) e τ;
      class = λ d. read_parts (reading bundle) k σ d τ;
      layer = λ a d. read_parts (reading bundle) k (with_layer σ a) d τ;
    }

-- what the parts from one that was read on lead to
module _ (bundle : Bytes) (s : Source) (c : Cursor) {r : Result Part Refusal} (h : PartRead bundle s c r) (τ : Lent) where
  leads : (k : ℕ) (σ : Selector) → Parts bundle s (left bundle s c) (ways_of bundle k σ τ) r (read_parts (reading bundle) (suc k) σ (spot s c) τ)
  unfolding read_parts
  leads k σ = h τ (ways_of bundle k σ τ)

  pub part_moves : {p : Part} → r ≡ Ok p → left bundle s (behind p) < left bundle s c
  part_moves {p} e = part_good (λ a. left bundle s (behind p) < left bundle s c) _ _ _ _ (leads 0 (bare all)) e (λ m. m)

  pub part_fails :
      (k : ℕ) (σ : Selector) {b : ℕ} {then : Lent} {e : Refusal}
      → r ≡ Err e
      → Selects bundle s b then (Err e) (read_parts (reading bundle) (suc k) σ (spot s c) τ)
  part_fails k σ e = part_bad (Selects bundle s _ _ _) _ _ _ _ (leads k σ) e (λ e τ p. no_selector p)

  pub part_leads :
      (k : ℕ) (σ : Selector) {b : ℕ} {then : Lent} {r' : Result (Bool × Cursor) Refusal} {p : Part}
      → r ≡ Ok p
      → (left bundle s (behind p) < left bundle s c → Selects bundle s b then r' (way bundle s (ways_of bundle k σ τ) p))
      → Selects bundle s b then r' (read_parts (reading bundle) (suc k) σ (spot s c) τ)
  part_leads k σ e q = part_good (Selects bundle s _ _ _) _ _ _ _ (leads k σ) e q

  -- a part that more parts come after
  pub part_on :
      (σ σ' : Selector) {start : ℕ} {w : Answer (Selector × Bool) Spot Lent Refusal} {p : Part}
      → Goes (Selects bundle s) bundle s start w c (λ f. read_parts (reading bundle) f σ (spot s c) τ)
      → r ≡ Ok p
      → ((k : ℕ) → way bundle s (ways_of bundle k σ τ) p ≡ read_parts (reading bundle) k σ' (spot s (behind p)) τ)
      → Goes (Selects bundle s) bundle s start w (behind p) (λ f. read_parts (reading bundle) f σ' (spot s (behind p)) τ)
  part_on σ σ' v e n =
      goes_on (Selects bundle s) bundle s _ _ _ _ _ _ v (part_moves e) λ k l t r q.
      part_leads k σ e λ m. widen_selector (omega arith) (subst (Selects bundle s _ t r) (sym (n k)) q)

-- what a call has read
pub read_value :
    {A : Type 0} {bundle : Bytes} {s : Source} {b : ℕ} {then : Lent} {r : Result Cursor Refusal} {a : Answer A Spot Lent Refusal} {d : Cursor}
    → Reads bundle s b then r a
    → r ≡ Ok d
    → (x : A) × ((a ≡ read x (spot s d) then) × (left bundle s d ≤ b))
read_value {A} {bundle} {s} {b} {then} {d = d} h i = go (rw i at h)
  where
    go : {a : Answer A Spot Lent Refusal} → Reads bundle s b then (Ok d) a → (x : A) × ((a ≡ read x (spot s d) then) × (left bundle s d ≤ b))
    go (done {x = x} d l) = (x, (refl, l))

pub after_known :
    {A B : Type 0} (Q : Answer B Spot Lent Refusal → Type 0) (k : A → Spot → Lent → Answer B Spot Lent Refusal) {a : Answer A Spot Lent Refusal} {x : A} {d : Spot} {τ : Lent}
    → a ≡ read x d τ
    → Q (k x d τ)
    → Q (after a k)
unfolding after
after_known Q k e q = subst (λ a. Q (after a k)) (sym e) q

-- ---- storing

module _ {A : Type 0} (Q : Answer A Spot Lent Refusal → Type 0) (bundle : Bytes) (s : Source) where
  selector_row :
      (σ : Selector) (kind : ℕ) (min max : Option ℕ) (layer : Option Range) (τ : Lent)
      → Shown σ kind min max layer
      → selector_kept τ (type_number σ.object_type) (level_in σ.min_zoom) (level_in σ.max_zoom) (layer_in σ.layer_id)
      ≡ selector_kept τ kind min max layer
  selector_row σ kind min max layer τ h = rw (h.type_is, h.min_is, h.max_is, h.layer_is) refl

  pub no_room_selector :
      (σ : Selector) (kind : ℕ) (min max : Option ℕ) (layer : Option Range) (c : Cursor) (τ : Lent) (k : Lent → Answer A Spot Lent Refusal) {τ' : Lent}
      → Shown σ kind min max layer
      → selector_kept τ kind min max layer ≡ (None, τ')
      → Q (refused (refusal_at 20 2 (reached_at s c)) τ)
      → Q (keep (reading bundle) (selector_entry σ) (spot s c) τ k)
  unfolding put_entry selector_kept
  no_room_selector σ kind min max layer c τ k h e q = option_none Q _ _ k (is_full _ _ _ (selector_row σ kind min max layer τ h ∙ e)) q

  pub room_selector :
      (σ : Selector) (kind : ℕ) (min max : Option ℕ) (layer : Option Range) (c : Cursor) (τ : Lent) (k : Lent → Answer A Spot Lent Refusal) {y : Unit} {τ' : Lent}
      → Shown σ kind min max layer
      → selector_kept τ kind min max layer ≡ (Some y, τ')
      → Q (k τ')
      → Q (keep (reading bundle) (selector_entry σ) (spot s c) τ k)
  unfolding put_entry selector_kept
  room_selector σ kind min max layer c τ k h e q = option_some Q _ _ k (is_put _ _ _ (selector_row σ kind min max layer τ h ∙ e)) q

  pub no_room_rule :
      (c : Cursor) (τ : Lent) (k : Lent → Answer A Spot Lent Refusal) {τ' : Lent}
      → rule_kept τ ≡ (None, τ')
      → Q (refused (refusal_at 20 1 (reached_at s c)) τ)
      → Q (keep (reading bundle) rule_entry (spot s c) τ k)
  unfolding put_entry rule_kept
  no_room_rule c τ k e q = option_none Q _ _ k (is_full _ _ _ e) q

  pub room_rule :
      (c : Cursor) (τ : Lent) (k : Lent → Answer A Spot Lent Refusal) {y : Unit} {τ' : Lent}
      → rule_kept τ ≡ (Some y, τ')
      → Q (k τ')
      → Q (keep (reading bundle) rule_entry (spot s c) τ k)
  unfolding put_entry rule_kept
  room_rule c τ k e q = option_some Q _ _ k (is_put _ _ _ e) q

-- ---- colors blocks and object types

module _ {A : Type 0} (Q : Answer A Spot Lent Refusal → Type 0) {bundle : Bytes} {s : Source} {b : ℕ} {τ : Lent} (k : Unit → Spot → Lent → Answer A Spot Lent Refusal) where
  pub after_unskipped :
      {r : Result Cursor Refusal} {a : Answer Unit Spot Lent Refusal} {e : Refusal}
      → Skips bundle s b τ r a
      → r ≡ Err e
      → ((e' : Refusal) (τ : Lent) → e ≡ e' → Q (refused e' τ))
      → Q (after a k)
  unfolding after
  after_unskipped {e = e} h i f = go (rw i at h)
    where
      go : {a : Answer Unit Spot Lent Refusal} → Skips bundle s b τ (Err e) a → Q (after a k)
      go unskipped = f e τ refl

  pub after_skipped :
      {r : Result Cursor Refusal} {a : Answer Unit Spot Lent Refusal} {d : Cursor}
      → Skips bundle s b τ r a
      → r ≡ Ok d
      → (left bundle s d ≤ b → Q (k tt (spot s d) τ))
      → Q (after a k)
  unfolding after
  after_skipped {d = d} h i q = go (rw i at h)
    where
      go : {a : Answer Unit Spot Lent Refusal} → Skips bundle s b τ (Ok d) a → Q (after a k)
      go (skipped d l) = q l

module _ (Q : Answer Rule Spot Lent Refusal → Type 0) (name : Bytes) (f : Answer (Selector × Bool) Spot Lent Refusal) (O : ObjectType → Answer (Selector × Bool) Spot Lent Refusal) (K : Selector × Bool → Spot → Lent → Answer Rule Spot Lent Refusal) where
  pub no_object : object_kind name ≡ None → Q (after f K) → Q (after (on_option (id_to_object_type name) f O) K)
  unfolding object_kind on_option
  no_object = go (id_to_object_type name)
    where
      go : (o : Option' ObjectType) → on_option o None (λ y. Some (kind_of y)) ≡ None → Q (after f K) → Q (after (on_option o f O) K)
      go none e q = q
      go (some y) e q = different cc

  pub an_object : {kind : ObjectKind} → object_kind name ≡ Some kind → ((y : ObjectType) → type_number y ≡ object_number kind → Q (after (O y) K)) → Q (after (on_option (id_to_object_type name) f O) K)
  unfolding object_kind on_option
  an_object {kind} = go (id_to_object_type name)
    where
      go : (o : Option' ObjectType) → on_option o None (λ y. Some (kind_of y)) ≡ Some kind → ((y : ObjectType) → type_number y ≡ object_number kind → Q (after (O y) K)) → Q (after (on_option o f O) K)
      go none e q = different cc
      go (some y) e q = let z : kind_of y ≡ kind = cc in q y (same_number y ∙ ap object_number z)

-- ---- what the start of a rule leads to

module _ (bundle : Bytes) (k : ℕ) (Γ : Colors) where
  abbrev rule_object : Spot → Lent → ObjectType → Answer (Selector × Bool) Spot Lent Refusal
  rule_object d τ y = read_parts (reading bundle) k (bare y) d τ

  abbrev rule_last : Selector → Spot → Lent → Answer Rule Spot Lent Refusal
  rule_last σ = read_body (reading bundle) k Γ (σ ∷ [])

  abbrev rule_next : Selector → Token' → Place → Spot → Lent → Answer Rule Spot Lent Refusal
  rule_next σ t o f τ = after (read_rule (reading bundle) k Γ τ t o f) λ r g τ. read (add_selector σ r) g τ

  abbrev rule_chosen : Selector × Bool → Spot → Lent → Answer Rule Spot Lent Refusal
  rule_chosen σ e τ = cond σ.1 (read_mandatory_token (reading bundle) e τ λ t o f. rule_next σ.0 t o f τ) (rule_last σ.0 e τ)

  module _ (s : Source) (τ : Lent) (t : Token) (o : Place) (c : Cursor) {r : Result Start Refusal} (h : StartRead bundle t o r) where
    pub rule_starts :
        Starts (read_body (reading bundle) k Γ [] (spot s c) τ) (read_block (reading bundle) k (spot s c) τ) (rule_object (spot s c) τ) rule_chosen r
        (read_rule (reading bundle) (suc k) Γ τ (token_of bundle t) o (spot s c))
    unfolding read_rule read_selector start_of
    rule_starts = h τ (read_body (reading bundle) k Γ [] (spot s c) τ) (read_block (reading bundle) k (spot s c) τ) (rule_object (spot s c) τ) rule_chosen

    pub rule_chooses :
        {kind : ObjectKind} {τ' : Lent} {r' : Result Choice Refusal}
        → r ≡ Ok (Object kind)
        → ChoiceRead bundle s (object_number kind) c τ τ' r'
        → left bundle s c < k
        → Chooses bundle s (left bundle s c) τ' rule_last rule_next r' (read_rule (reading bundle) (suc k) Γ τ (token_of bundle t) o (spot s c))
    rule_chooses {τ'} {r'} e p l =
        start_object (Chooses bundle s (left bundle s c) τ' rule_last rule_next r') rule_starts e λ y q. p k y rule_last rule_next q l

-- behind a selector and the first token of the next, less is left
pub choice_moves :
    (bundle : Bytes) (s : Source) (τ : Lent) (t : Token) (o : Place) (c : Cursor) {r : Result Start Refusal} {kind : ObjectKind} {τ' : Lent} {r' : Result Choice Refusal} {u : Token} {p : Place} {d : Cursor}
    → StartRead bundle t o r
    → r ≡ Ok (Object kind)
    → ChoiceRead bundle s (object_number kind) c τ τ' r'
    → r' ≡ Ok (Some (u, p), d)
    → left bundle s d < left bundle s c
choice_moves bundle s τ t o c {d = d} h e p q =
    choice_next (λ a. left bundle s d < left bundle s c) (rule_chooses bundle (suc (left bundle s c)) [] s τ t o c h e p (omega arith)) q λ σ m. m

-- the same colours by another name of their table
pub body_colors :
    (bundle : Bytes) (s : Source) (c : Cursor) (n : ℕ) (τ τ' : Lent) {r : Result Cursor Refusal} {cs ds : List ℕ}
    → cs ≡ ds
    → BodyRead bundle s c (colors_of bundle cs n) τ τ' r
    → BodyRead bundle s c (colors_of bundle ds n) τ τ' r
body_colors bundle s c n τ τ' {r = r} e h = subst (λ cs. BodyRead bundle s c (colors_of bundle cs n) τ τ' r) e h
