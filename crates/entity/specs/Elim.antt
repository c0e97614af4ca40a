-- The eliminator of the kinds that a caller takes, with its laws.
use Rattle.std.specs.Prelude.{◌≡◌}
use Rattle.std.proofs.Common.{sym, ap, ◌∙◌}
use Rattle.entity.specs.declared.Sort.{Sort}
use Rattle.entity.specs.declared.Sort.TheVariants.{Any, Nodes, Areas}

unfoldable pub on-Sort : {B : Type 0} → Sort → B → B → B → B
on-Sort Any k0 k1 k2 = k0
on-Sort Nodes k0 k1 k2 = k1
on-Sort Areas k0 k1 k2 = k2

unfoldable pub with-Sort : {T B : Type 0} → Sort × T → (T → B) → (T → B) → (T → B) → B
with-Sort x k0 k1 k2 = on-Sort x.0 (k0 x.1) (k1 x.1) (k2 x.1)

pub Sort-Any : {B : Type 0} (x : Sort) (k0 : B) (k1 : B) (k2 : B) {y : B} → x ≡ Any → y ≡ k0 → y ≡ on-Sort x k0 k1 k2
unfolding on-Sort
Sort-Any x k0 k1 k2 e h = h ∙ sym (ap (λ x. on-Sort x k0 k1 k2) e)

pub Sort-Nodes : {B : Type 0} (x : Sort) (k0 : B) (k1 : B) (k2 : B) {y : B} → x ≡ Nodes → y ≡ k1 → y ≡ on-Sort x k0 k1 k2
unfolding on-Sort
Sort-Nodes x k0 k1 k2 e h = h ∙ sym (ap (λ x. on-Sort x k0 k1 k2) e)

pub Sort-Areas : {B : Type 0} (x : Sort) (k0 : B) (k1 : B) (k2 : B) {y : B} → x ≡ Areas → y ≡ k2 → y ≡ on-Sort x k0 k1 k2
unfolding on-Sort
Sort-Areas x k0 k1 k2 e h = h ∙ sym (ap (λ x. on-Sort x k0 k1 k2) e)

pub Sort-Any-with :
    {T B : Type 0} (x : Sort × T) (k0 : T → B) (k1 : T → B) (k2 : T → B) {u : T} {y : B}
    → x ≡ (Any, u)
    → y ≡ k0 u
    → y ≡ with-Sort x k0 k1 k2
unfolding on-Sort with-Sort
Sort-Any-with x k0 k1 k2 e h = h ∙ sym (ap (λ x. with-Sort x k0 k1 k2) e)

pub Sort-Nodes-with :
    {T B : Type 0} (x : Sort × T) (k0 : T → B) (k1 : T → B) (k2 : T → B) {u : T} {y : B}
    → x ≡ (Nodes, u)
    → y ≡ k1 u
    → y ≡ with-Sort x k0 k1 k2
unfolding on-Sort with-Sort
Sort-Nodes-with x k0 k1 k2 e h = h ∙ sym (ap (λ x. with-Sort x k0 k1 k2) e)

pub Sort-Areas-with :
    {T B : Type 0} (x : Sort × T) (k0 : T → B) (k1 : T → B) (k2 : T → B) {u : T} {y : B}
    → x ≡ (Areas, u)
    → y ≡ k2 u
    → y ≡ with-Sort x k0 k1 k2
unfolding on-Sort with-Sort
Sort-Areas-with x k0 k1 k2 e h = h ∙ sym (ap (λ x. with-Sort x k0 k1 k2) e)
