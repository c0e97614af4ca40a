-- The proof of what Accepted states.
use Rattle.std.specs.Prelude.{ℕ, ◌+◌, ◌≡◌, refl, Bool, List, Float}
use Rattle.std.proofs.Common.{arith, sym, ◌∙◌, subst}
use Rattle.base.specs.Bytes.{Bytes}
use Rattle.base.specs.Choice.{different}
use Rattle.color.specs.declared.Color.{Color}
use Rattle.grammar.specs.Token.{Name, Token}
use Rattle.grammar.specs.Reading.{Reading, Colors}
use Rattle.grammar.specs.Input.{Input, Store, over, Answer, read}
use Rattle.grammar.specs.Grammar.{IsSheet, finish, a_rule, defined, dropped, imported}
use Rattle.grammar.specs.Capacity.{Tables, empty, tables_of, limited, stores}
use Rattle.grammar.specs.Stream.{Sheet}
use Rattle.grammar.proofs.Laws.{gives_over, gives_back}
use Rattle.grammar.specs.Alike.{Alike, both_refused, both_read}
use Rattle.grammar.proofs.AlikeProof.{loads_alike}
use Rattle.grammar.proofs.CapacityLaws.{loaded, loads}
use Rattle.grammar.specs.Accepted.{Accepted, Accepts, OneReading, StoredAlike, StoredAccepted, StoredAccepts}

-- other words for the texts of the bundle
pub retold :
    {countable : Float → Bool} {X Y : Bytes → List Token → Type 0}
    → ((n : Bytes) (q : List Token) → X n q → Y n q)
    → {d : ℕ} {Γ : Colors} {p : List Token} {js : Reading}
    → IsSheet countable X d Γ p js
    → IsSheet countable Y d Γ p js
retold f finish = finish
retold f (a_rule d h) = a_rule d (retold f h)
retold f (defined n c h) = defined n c (retold f h)
retold f (dropped n t z h) = dropped n t z (retold f h)
retold f (imported n x d h) = imported n (f n.bytes _ x) (retold f d) (retold f h)

-- nor do the texts of the bundle depend on fuel and tables
module _ {C T U P R : Type 0} (i : Input C T P R) (g : C → ℕ) (s : Store U) where
  sheet_over : {d : ℕ} {Γ : Colors} {p : List Token} {js : Reading} → Sheet i d Γ p js → Sheet (over i g s) d Γ p js
  sheet_over h =
      retold
      (λ n q x.
      (x.0, (x.1.0, (x.1.1.0, (x.1.1.1.0, (gives_over i g s x.1.1.1.1.0, x.1.1.1.1.1))))))
      h

  sheet_back : {d : ℕ} {Γ : Colors} {p : List Token} {js : Reading} → Sheet (over i g s) d Γ p js → Sheet i d Γ p js
  sheet_back h =
      retold
      (λ n q x.
      (x.0, (x.1.0, (x.1.1.0, (x.1.1.1.0, (gives_back i g s x.1.1.1.1.0, x.1.1.1.1.1))))))
      h

module _ {C T P R : Type 0} (i : Input C T P R) where
  pub accepted : Accepted i
  accepted capacity c f js υ e =
      let h = loaded capacity (over i i.fuel (limited capacity)) refl c js f υ e in
      let w = h.1.0 in (
        (
          h.0,
          (
            (f, (w.0, (gives_back i i.fuel (limited capacity) w.1.0, w.1.1))),
            sheet_back i i.fuel (limited capacity) h.1.1.0,
          ),
        ),
        h.1.1.1,
      )

  pub accepts : Accepts i
  accepts fueled capacity c js r b =
      let w = r.1.0 in
      let s = limited capacity in
      let g = i.fuel in (
        w.0,
        loads capacity (over i g s) refl (λ c d p h. fueled c d p (gives_back i g s h)) c w.0 r.0 js
            (w.1.0, (gives_over i g s w.1.1.0, w.1.1.1))
            (sheet_over i g s r.1.1) b,
      )

  -- both fit into tables that are large enough for both
  pub one_reading : OneReading i
  one_reading fueled c js ks r q =
      let capacity : ℕ → ℕ = λ k. stores k js + stores k ks in
      let a = accepts fueled capacity c js r (λ k. omega arith) in
      let b = accepts fueled capacity c ks q (λ k. omega arith) in
      let e : ◌≡◌ {A = Answer Reading C Tables R} (read js a.0 (tables_of js)) (read ks b.0 (tables_of ks)) =
      sym a.1 ∙ b.1 in
      cc

-- an answer that has read something is alike only to one that has read the same
module _ {A C T U R : Type 0} {Rel : T → U → Type 0} where
  read_right :
      {a : Answer A C T R} {b : Answer A C U R} {x : A} {c : C} {τ : T}
      → Alike Rel a b
      → a ≡ read x c τ
      → (υ : U) × ((b ≡ read x c υ) × Rel τ υ)
  read_right {x = x} {c = c} {τ = τ} (both_read {x = y} {c = d} {τ = φ} {υ = υ} s) e =
      let p : y ≡ x = cc in
      let q : d ≡ c = cc in
      let r : φ ≡ τ = cc in
      (υ, (rw (p, q), subst (λ τ. Rel τ υ) r s))
  read_right {x = x} {c = c} {τ = τ} (both_refused s) e = different cc

  read_left :
      {a : Answer A C T R} {b : Answer A C U R} {x : A} {c : C} {υ : U}
      → Alike Rel a b
      → b ≡ read x c υ
      → (τ : T) × ((a ≡ read x c τ) × Rel τ υ)
  read_left {x = x} {c = c} {υ = υ} (both_read {x = y} {c = d} {τ = τ} {υ = φ} s) e =
      let p : y ≡ x = cc in
      let q : d ≡ c = cc in
      let r : φ ≡ υ = cc in
      (τ, (rw (p, q), subst (λ υ. Rel τ υ) r s))
  read_left {x = x} {c = c} {υ = υ} (both_refused s) e = different cc

module _ {C T P R : Type 0} (i : Input C T P R) (Genuine : Name → Type 0) (Small : Color → Type 0)
    (Rel : T → Tables → Type 0) (capacity : ℕ → ℕ) where
  pub stored_alike : StoredAlike i Genuine Small Rel capacity
  stored_alike n stands fueled c τ s =
      loads_alike i i.fuel (limited capacity) Genuine Small Rel n stands fueled
      (λ c d p h. fueled c d p (gives_back i i.fuel (limited capacity) h))
      c τ empty s

  pub stored_accepted : StoredAccepted i Genuine Small Rel capacity
  stored_accepted n stands fueled c f τ υ js s e =
      let h = read_right (stored_alike n stands fueled c τ s) e in
      let a = accepted i capacity c f js h.0 h.1.0 in
      (a.0, (a.1.0, subst (Rel υ) a.1.1 h.1.1))

  pub stored_accepts : StoredAccepts i Genuine Small Rel capacity
  stored_accepts n stands fueled c τ js s r b =
      let a = accepts i fueled capacity c js r b in
      let h = read_left (stored_alike n stands fueled c τ s) a.1 in
      (a.0, (h.0, (h.1.0, h.1.1)))
