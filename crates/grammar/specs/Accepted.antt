-- The promise on reading: which texts are accepted, what they read as, and what the tables then hold.
use Rattle.std.specs.Prelude.{ℕ, ◌≡◌, List, []}
use Rattle.color.specs.declared.Color.{Color}
use Rattle.grammar.specs.Token.{Name, Token}
use Rattle.grammar.specs.Reading.{Reading}
use Rattle.grammar.specs.Input.{Input, over, Answer, read}
use Rattle.grammar.specs.Reader.{load}
use Rattle.grammar.specs.Stream.{Whole, Sheet, Fueled}
use Rattle.grammar.specs.Capacity.{Tables, empty, tables_of, limited, Bounded}
use Rattle.grammar.specs.Alike.{Alike, Stands, TokensGenuine}

module _ {C T P R : Type 0} (i : Input C T P R) where
  -- the text at c is one of the grammar's, and js is a reading of it
  abbrev pub Reads : C → Reading → Type 0
  Reads c js = (p : List Token) × (Whole i c p × Sheet i 8 [] p js)

  -- the load of the text at c into empty tables of these capacities
  abbrev pub load_into : (ℕ → ℕ) → C → Answer Reading C Tables R
  load_into capacity c = load (over i i.fuel (limited capacity)) c empty

  -- an accepted text is the grammar's, its reading is within the capacities, and the tables are those that it fills
  abbrev pub Accepted : Type 0
  Accepted =
      (capacity : ℕ → ℕ) (c f : C) (js : Reading) (υ : Tables)
      → load_into capacity c ≡ read js f υ
      → Reads c js × (Bounded capacity js × (υ ≡ tables_of js))

  -- a text of the grammar whose reading is within the capacities is accepted, with this reading
  abbrev pub Accepts : Type 0
  Accepts =
      Fueled i
      → (capacity : ℕ → ℕ) (c : C) (js : Reading)
      → Reads c js
      → Bounded capacity js
      → (f : C) × (load_into capacity c ≡ read js f (tables_of js))

  -- each text has one reading
  abbrev pub OneReading : Type 0
  OneReading = Fueled i → (c : C) (js ks : Reading) → Reads c js → Reads c ks → js ≡ ks

  -- ---- the same of any tables that stand for those, such as the tables lent to a load

  module _ (Genuine : Name → Type 0) (Small : Color → Type 0) (Rel : T → Tables → Type 0) (capacity : ℕ → ℕ) where
    -- refused alike too, with the same refusal
    abbrev pub StoredAlike : Type 0
    StoredAlike =
        TokensGenuine Genuine Small i
        → Stands Genuine Small Rel i.store (limited capacity)
        → Fueled i
        → (c : C) (τ : T)
        → Rel τ empty
        → Alike Rel (load i c τ) (load_into capacity c)

    abbrev pub StoredAccepted : Type 0
    StoredAccepted =
        TokensGenuine Genuine Small i
        → Stands Genuine Small Rel i.store (limited capacity)
        → Fueled i
        → (c f : C) (τ υ : T) (js : Reading)
        → Rel τ empty
        → load i c τ ≡ read js f υ
        → Reads c js × (Bounded capacity js × Rel υ (tables_of js))

    abbrev pub StoredAccepts : Type 0
    StoredAccepts =
        TokensGenuine Genuine Small i
        → Stands Genuine Small Rel i.store (limited capacity)
        → Fueled i
        → (c : C) (τ : T) (js : Reading)
        → Rel τ empty
        → Reads c js
        → Bounded capacity js
        → (f : C) × ((υ : T) × ((load i c τ ≡ read js f υ) × Rel υ (tables_of js)))
