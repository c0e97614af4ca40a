-- One text loaded twice, with other tables and other fuel: the answers are alike, refusals too.
use Rattle.std.specs.Prelude.{ℕ, ◌≡◌}
use Rattle.std.proofs.Math.Option.{Option, none, some}
use Rattle.color.specs.declared.Color.{Color}
use Rattle.grammar.specs.Token.{Name, color_ref, color}
use Rattle.grammar.specs.Input.{Entry, color_entry, token, Store, Input, over, Answer, refused, read}
use Rattle.grammar.specs.Reader.{load}
use Rattle.grammar.specs.Stream.{Fueled}

-- Rel τ υ: the tables τ stand for the tables υ
module _ {T U : Type 0} (Rel : T → U → Type 0) where
  -- both refuse alike or both read alike, and the tables still stand for one another
  pub data Alike {A C R : Type 0} : Answer A C T R → Answer A C U R → Type 0 where
    both_refused : {r : R} {τ : T} {υ : U} → Rel τ υ → Alike (refused r τ) (refused r υ)
    both_read : {x : A} {c : C} {τ : T} {υ : U} → Rel τ υ → Alike (read x c τ) (read x c υ)

  -- both are full, or both take the entry
  pub data BothPut : Option T → Option U → Type 0 where
    both_full : BothPut none none
    both_take : {τ : T} {υ : U} → Rel τ υ → BothPut (some τ) (some υ)

-- Genuine n: a name of a colour as the tokenizer makes it, say, one whose bytes stand where its ranges are. Small c: a colour
-- as the tokenizer makes it, say, one of three bytes.
module _ (Genuine : Name → Type 0) (Small : Color → Type 0) where
  abbrev pub Proper : Entry → Type 0
  Proper (color_entry n c) = Genuine n × Small c
  Proper e = Unit

  -- the stores take entries alike, and show the same colours
  pub record Stands {T U : Type 0} (Rel : T → U → Type 0) (s : Store T) (z : Store U) : Type 0 where
    pub puts : (τ : T) (υ : U) (e : Entry) → Proper e → Rel τ υ → BothPut Rel (s.put e τ) (z.put e υ)
    pub shows : (τ : T) (υ : U) → Rel τ υ → s.colors τ ≡ z.colors υ

  module _ {C T P R : Type 0} (i : Input C T P R) where
    abbrev pub NamesGenuine : Type 0
    NamesGenuine = (c d : C) (o : P) (n : Name) → i.next c ≡ token (color_ref n) o d → Genuine n

    abbrev pub ColorsSmall : Type 0
    ColorsSmall = (c d : C) (o : P) (x : Color) → i.next c ≡ token (color x) o d → Small x

    abbrev pub TokensGenuine : Type 0
    TokensGenuine = NamesGenuine × ColorsSmall

    -- loads into tables that stand for one another are alike, whatever their fuel, if it is enough
    abbrev pub LoadsAlike : {U : Type 0} → (C → ℕ) → Store U → (T → U → Type 0) → Type 0
    LoadsAlike g z Rel =
        Stands Rel i.store z
        → Fueled i
        → Fueled (over i g z)
        → (c : C) (τ : T) (υ : _)
        → Rel τ υ
        → Alike Rel (load i c τ) (load (over i g z) c υ)
