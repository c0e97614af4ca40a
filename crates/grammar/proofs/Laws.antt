-- Phrases of a text and entries of the tables, and what is known of an answer that has read something.
use Rattle.std.specs.Prelude.{ℕ, ◌≡◌, Bool, true, false, cond, List, [], ◌∷◌, ◌++◌, Float}
use Rattle.std.proofs.Math.Path.{refl}
use Rattle.std.proofs.Common.{◌∙◌, ap, subst}
use Rattle.std.proofs.lemmas.Bool.{cond_both}
use Rattle.std.proofs.Math.Option.{Option, none, some}
use Rattle.base.specs.Choice.{different}
use Rattle.color.specs.declared.Color.{Color}
use Rattle.grammar.specs.Token.{Name, Sign, Token, import, identifier, string, color_ref, number, zoom_range, color, sign}
use Rattle.grammar.specs.View.{is_sign, on_sign, on_import, on_identifier, on_string, on_color_ref, on_number, on_zoom_range, on_color}
use Rattle.grammar.proofs.ViewLaws.{sign_holds, import_holds, identifier_holds, string_holds, color_ref_holds, number_holds, zoom_range_holds, color_holds}
use Rattle.grammar.specs.Input.{Entry, Store, over, Next, broken, end, token, Input, Answer, refused, read, on_next, on_option, after, keep}
use Rattle.grammar.specs.Reader.{read_mandatory_token, expect_simple_token, read_identifier}
use Rattle.grammar.specs.Stream.{Gives, here, ◌▸◌}

module _ {C T P R : Type 0} (i : Input C T P R) where
  infixr 60 ◌◂◌
  -- the tables τ take the entries es, and are then υ
  pub data Puts : T → List Entry → T → Type 0 where
    kept : {τ : T} → Puts τ [] τ
    ◌◂◌ : {τ υ φ : T} {e : Entry} {es : List Entry} → i.store.put e τ ≡ some υ → Puts υ es φ → Puts τ (e ∷ es) φ

  pub join : {p q : List Token} {c d e : C} → Gives i c p d → Gives i d q e → Gives i c (p ++ q) e
  join here g = g
  join (e ▸ h) g = e ▸ join h g

  pub uncons :
      {c e : C} {t : Token} {p : List Token}
      → Gives i c (t ∷ p) e
      → (d : C) × ((o : P) × ((i.next c ≡ token t o d) × Gives i d p e))
  uncons (e ▸ h) = (_, (_, (e, h)))

  pub split : (p : List Token) {q : List Token} {c e : C} → Gives i c (p ++ q) e → (d : C) × (Gives i c p d × Gives i d q e)
  split [] {c = c} h = (c, (here, h))
  split (t ∷ p) h =
      let c = uncons h in
      let r = split p c.1.1.1 in
      (r.0, (c.1.1.0 ▸ r.1.0, r.1.1))

  pub both : {es fs : List Entry} {τ υ φ : T} → Puts τ es υ → Puts υ fs φ → Puts τ (es ++ fs) φ
  both kept g = g
  both (e ◂ h) g = e ◂ both h g

  pub unput : {τ φ : T} {e : Entry} {es : List Entry} → Puts τ (e ∷ es) φ → (υ : T) × ((i.store.put e τ ≡ some υ) × Puts υ es φ)
  unput (e ◂ h) = (_, (e, h))

  pub apart : (es : List Entry) {fs : List Entry} {τ φ : T} → Puts τ (es ++ fs) φ → (υ : T) × (Puts τ es υ × Puts υ fs φ)
  apart [] {τ = τ} h = (τ, (kept, h))
  apart (e ∷ es) h =
      let c = unput h in
      let r = apart es c.1.1 in
      (r.0, (c.1.0 ◂ r.1.0, r.1.1))

  pub found : {c d : C} {o : P} {t t' : Token} → i.next c ≡ token t o d → t ≡ t' → i.next c ≡ token t' o d
  found {d = d} {o = o} e q = e ∙ ap (λ t. token t o d) q

  -- a phrase that X reads as x stands between c and d, and its entries E x take the tables from τ to υ
  abbrev pub Phrase : {A : Type 0} → (List Token → A → Type 0) → (A → List Entry) → C → T → A → C → T → Type 0
  Phrase X E c τ x d υ = (p : List Token) × (Gives i c p d × (Puts τ (E x) υ × X p x))

-- what a text gives does not depend on fuel and tables
module _ {C T U P R : Type 0} (i : Input C T P R) (g : C → ℕ) (z : Store U) where
  pub gives_over : {c d : C} {p : List Token} → Gives i c p d → Gives (over i g z) c p d
  gives_over here = here
  gives_over (e ▸ h) = e ▸ gives_over h

  pub gives_back : {c d : C} {p : List Token} → Gives (over i g z) c p d → Gives i c p d
  gives_back here = here
  gives_back (e ▸ h) = e ▸ gives_back h

-- S holds of whatever the answer has read
module _ {A C T R : Type 0} (S : A → C → T → Type 0) where
  abbrev pub Sound : Answer A C T R → Type 0
  Sound a = (x : A) (d : C) (υ : T) → a ≡ read x d υ → S x d υ

  pub refused_sound : (r : R) (τ : T) → Sound (refused r τ)
  refused_sound r τ x d υ e = different cc

  pub read_sound : {x : A} {d : C} {υ : T} → S x d υ → Sound (read x d υ)
  read_sound {x} {d} {υ} h y e φ q =
      let ex : x ≡ y = cc in
      let ed : d ≡ e = cc in
      let eu : υ ≡ φ = cc in
      subst (λ v. S y e v) eu (subst (λ v. S y v υ) ed (subst (λ v. S v d υ) ex h))

  pub next_sound :
      {P : Type 0} (n : Next C P R) (τ : T) {f : C → Answer A C T R} {k : Token → P → C → Answer A C T R}
      → ((d : C) → n ≡ end d → Sound (f d))
      → ((t : Token) (o : P) (d : C) → n ≡ token t o d → Sound (k t o d))
      → Sound (on_next n (λ r. refused r τ) f k)
  unfolding on_next
  next_sound (broken r) τ hf hk = refused_sound r τ
  next_sound (end d) τ hf hk = hf d refl
  next_sound (token t o u) τ hf hk = hk t o u refl

  pub option_sound :
      {B : Type 0} (o : Option B) {f : Answer A C T R} {k : B → Answer A C T R}
      → (o ≡ none → Sound f)
      → ((x : B) → o ≡ some x → Sound (k x))
      → Sound (on_option o f k)
  unfolding on_option
  option_sound none hf hk = hf refl
  option_sound (some x) hf hk = hk x refl

  pub test_sound_lem : (b : Bool) {f g : Answer A C T R} → (b ≡ true → Sound f) → (b ≡ false → Sound g) → Sound (cond b f g)
  test_sound_lem b hf hg = cond_both b _ _ Sound hf hg

  pub sign_sound :
      (g : Sign) (t : Token) {f h : Answer A C T R}
      → (t ≡ sign g → Sound f)
      → (is_sign g t ≡ false → Sound h)
      → Sound (on_sign g t f h)
  sign_sound g t hf hg = sign_holds Sound g t _ _ hf hg

  pub import_sound :
      (t : Token) {f : Name → Answer A C T R} {g : Answer A C T R}
      → ((a : Name) → t ≡ import a → Sound (f a))
      → Sound g
      → Sound (on_import t f g)
  import_sound t hf hg = import_holds Sound t _ _ hf hg

  pub identifier_sound :
      (t : Token) {f : Name → Answer A C T R} {g : Answer A C T R}
      → ((a : Name) → t ≡ identifier a → Sound (f a))
      → Sound g
      → Sound (on_identifier t f g)
  identifier_sound t hf hg = identifier_holds Sound t _ _ hf hg

  pub string_sound :
      (t : Token) {f : Name → Answer A C T R} {g : Answer A C T R}
      → ((a : Name) → t ≡ string a → Sound (f a))
      → Sound g
      → Sound (on_string t f g)
  string_sound t hf hg = string_holds Sound t _ _ hf hg

  pub color_ref_sound :
      (t : Token) {f : Name → Answer A C T R} {g : Answer A C T R}
      → ((a : Name) → t ≡ color_ref a → Sound (f a))
      → Sound g
      → Sound (on_color_ref t f g)
  color_ref_sound t hf hg = color_ref_holds Sound t _ _ hf hg

  pub number_sound :
      (t : Token) {f : Float → Answer A C T R} {g : Answer A C T R}
      → ((x : Float) → t ≡ number x → Sound (f x))
      → Sound g
      → Sound (on_number t f g)
  number_sound t hf hg = number_holds Sound t _ _ hf hg

  pub color_sound :
      (t : Token) {f : Color → Answer A C T R} {g : Answer A C T R}
      → ((c : Color) → t ≡ color c → Sound (f c))
      → Sound g
      → Sound (on_color t f g)
  color_sound t hf hg = color_holds Sound t _ _ hf hg

  pub zoom_sound :
      (t : Token) {f : Option ℕ → Option ℕ → Answer A C T R} {g : Answer A C T R}
      → ((a b : Option ℕ) → t ≡ zoom_range a b → Sound (f a b))
      → Sound g
      → Sound (on_zoom_range t f g)
  zoom_sound t hf hg = zoom_range_holds Sound t _ _ hf hg

  -- Q is what is known of the first reading
  pub after_sound :
      {B : Type 0} {a : Answer B C T R} {k : B → C → T → Answer A C T R} (Q : B → C → T → Type 0)
      → ((x : B) (d : C) (υ : T) → a ≡ read x d υ → Q x d υ)
      → ((x : B) (d : C) (υ : T) → Q x d υ → Sound (k x d υ))
      → Sound (after a k)
  unfolding after
  after_sound {a} {k} Q ha hk = go a ha
    where
      go : (b : Answer _ C T R) → ((x : _) (d : C) (υ : T) → b ≡ read x d υ → Q x d υ) → Sound (after b k)
      go (refused r τ) h = refused_sound r τ
      go (read x d υ) h = hk x d υ (h x d υ refl)

  module _ {P : Type 0} (i : Input C T P R) where
    pub token_sound :
        (c : C) (τ : T) {k : Token → P → C → Answer A C T R}
        → ((t : Token) (o : P) (d : C) → i.next c ≡ token t o d → Sound (k t o d))
        → Sound (read_mandatory_token i c τ k)
    token_sound c τ hk = next_sound (i.next c) τ (λ d e. refused_sound _ _) hk

    pub expect_sound :
        (g : Sign) (c : C) (τ : T) {k : C → Answer A C T R}
        → ((o : P) (d : C) → i.next c ≡ token (sign g) o d → Sound (k d))
        → Sound (expect_simple_token i g c τ k)
    expect_sound g c τ hk = token_sound c τ λ t o d e. sign_sound g t (λ q. hk o d (found i e q)) (λ q. refused_sound _ _)

    pub name_sound :
        (c : C) (τ : T) {k : Name → C → Answer A C T R}
        → ((a : Name) (o : P) (d : C) → i.next c ≡ token (identifier a) o d → Sound (k a d))
        → Sound (read_identifier i c τ k)
    name_sound c τ hk = token_sound c τ λ t o d e. identifier_sound t (λ a q. hk a o d (found i e q)) (refused_sound _ _)

    pub keep_sound :
        (e : Entry) (c : C) (τ : T) {k : T → Answer A C T R}
        → ((υ : T) → i.store.put e τ ≡ some υ → Sound (k υ))
        → Sound (keep i e c τ k)
    keep_sound e c τ hk = option_sound (i.store.put e τ) (λ e. refused_sound _ _) hk
