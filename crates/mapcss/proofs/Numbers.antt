-- The numbers of the refusals of calls, definition by definition.
use Prim.Native.Nat.{ℕ, zero, suc, ◌+◌}
use mathlib.Core.Path.{subst}
use mathlib.Core.Bool.{Bool, true, false}
use mathlib.Core.List.{List, [], ◌∷◌, ◌++◌}
use lib.Dec.{eqb, leb, ltb}
use lib.Ieee.{Float}
use lib.ListN.{length}
use Rattle.std.proofs.lemmas.Bool.{cond_both}
use Rattle.base.specs.Bytes.{Bytes, same}
use Rattle.base.specs.Choice.{pick_split}
use Rattle.base.specs.Refusal.{of_entity}
use Rattle.base.specs.Turns.{Turn, more, done, after, turns}
use Rattle.base.specs.declared.refusal.Refusal.{Refusal}
use Rattle.entity.specs.Layout.{entity_at, single_of, next_of}
use Rattle.entity.specs.declared.EntityRange.{EntityRange}
use Rattle.entity.specs.declared.Sort.{Sort}
use Rattle.entity.specs.declared.Sort.TheVariants.{Any, Nodes, Areas}
use Rattle.cascade.specs.Clause.{star}
use Rattle.cascade.specs.Match.{Verdict, pass, fail, out}
use Rattle.valid.specs.Valid.{tables_sound}
use Rattle.valid.specs.declared.Counts.{Counts}
use Rattle.walk.specs.Maps.{finish, walk_of, maps_of}
use Rattle.walk.specs.Run.{Run, stop, going, bind, grown, assign_at, assign_all, seek, new_row, touch_of, step_of, on_verdict, hit_of, selectors_of, rule_of, rules_of}
use Rattle.style.specs.declared.Settings.{Settings}
use Rattle.styles.specs.Styles.{styles_from, styles_of}
use Rattle.styles.specs.declared.EntityStyles.{EntityStyles}
use Rattle.canvas.specs.Canvas.{canvas_of}
use Rattle.order.specs.declared.Key.{Key}
use Rattle.drawing.specs.Gather.{Gathered, stopped, gathered, on-Gathered, keys_in, push, Spot, gather_turn, gather_of}
use Rattle.drawing.specs.Lists.{listed, room_of, nodes_of, areas_of}
use Rattle.mapcss.specs.Numbers.{OneOf, first, later, entity_numbers, list_numbers, canvas_numbers, MapsNumbers, StylesNumbers, NodesNumbers, AreasNumbers, CanvasNumbers}
use Rattle.std.specs.Prelude.{Option, Some, None, Result, Ok, Err}
use Rattle.base.specs.Option.{on_option, on_result, on_result_option}
use Rattle.color.specs.declared.Color.{Color}

of_entity_lem : {ks : List ℕ} (k : ℕ) (mp : Bool) (place : ℕ) → OneOf ks k → OneOf ks (of_entity k mp place).number
of_entity_lem k true place h = h
of_entity_lem k false place h = h

-- ---- what each answer says of its refusal, if it is one

abbrev RunIn : Run → Type 0
RunIn (stop k) = OneOf entity_numbers k
RunIn (going n t) = Unit {0}

abbrev MapsIn : Result ℕ Refusal → Type 0
MapsIn (Err e) = OneOf entity_numbers e.number
MapsIn (Ok n) = Unit {0}

abbrev SingleIn : Result EntityRange Refusal → Type 0
SingleIn (Err e) = OneOf entity_numbers e.number
SingleIn (Ok e) = Unit {0}

abbrev NextIn : Result (Option EntityRange) Refusal → Type 0
NextIn (Err e) = OneOf entity_numbers e.number
NextIn (Ok None) = Unit {0}
NextIn (Ok (Some e)) = Unit {0}

abbrev StyledIn : Result EntityStyles Refusal → Type 0
StyledIn (Err e) = OneOf entity_numbers e.number
StyledIn (Ok n) = Unit {0}

abbrev CanvasIn : Result (Option Color) Refusal → Type 0
CanvasIn (Err e) = OneOf canvas_numbers e.number
CanvasIn (Ok c) = Unit {0}

abbrev GatheredIn : Gathered → Type 0
GatheredIn (stopped e) = OneOf list_numbers e.number
GatheredIn (gathered l) = Unit {0}

abbrev TurnIn : Turn Spot Gathered → Type 0
TurnIn (more x) = Unit {0}
TurnIn (done g) = GatheredIn g

abbrev ListIn : Result ℕ Refusal → Type 0
ListIn (Err e) = OneOf list_numbers e.number
ListIn (Ok n) = Unit {0}

-- ---- the numbers

n22 : OneOf entity_numbers 22
n22 = first

n7 : OneOf entity_numbers 7
n7 = later first

n2 : OneOf entity_numbers 2
n2 = later (later first)

n8 : OneOf entity_numbers 8
n8 = later (later (later first))

n23 : OneOf entity_numbers 23
n23 = later (later (later (later first)))

n24 : OneOf entity_numbers 24
n24 = later (later (later (later (later first))))

earlier : {k : ℕ} {ks : List ℕ} (ls : List ℕ) → OneOf ks k → OneOf (ks ++ ls) k
earlier ls first = first
earlier ls (later h) = later (earlier ls h)

wider : {k : ℕ} → OneOf entity_numbers k → OneOf list_numbers k
wider h = earlier (9 ∷ 25 ∷ []) h

m9 : OneOf list_numbers 9
m9 = later (later (later (later (later (later first)))))

m25 : OneOf list_numbers 25
m25 = later (later (later (later (later (later (later first))))))

-- ---- the walk

bind_in : (r : Run) (f : ℕ → List ℕ → Run) → RunIn r → ((n : ℕ) (t : List ℕ) → RunIn (f n t)) → RunIn (bind r f)
unfolding bind
bind_in (stop k) f h g = h
bind_in (going n t) f h g = g n t

module _ (name : ℕ → Bytes) where
  assign_in : (t : List ℕ) (m i : ℕ) (ps : List ℕ) → RunIn (assign_at name t m i ps)
  unfolding assign_at
  assign_in t m i ps = cond_both (ltb (length (grown name t i ps)) 129) _ _ RunIn (λ e. tt) (λ e. n24)

  assign_all_in : (t : List ℕ) (m i k : ℕ) (ps : List ℕ) → RunIn (assign_all name t m i k ps)
  unfolding assign_all
  assign_all_in t m i zero ps = tt
  assign_all_in t m i (suc k) ps =
      bind_in (assign_at name t m i ps) _ (assign_in t m i ps) (λ q t. assign_all_in t m (i + 1) k ps)

  module _ (layer : ℕ → Bytes) where
    touch_in : (t : List ℕ) (m j s : ℕ) (ps : List ℕ) → RunIn (touch_of name layer t m j s ps)
    unfolding touch_of
    touch_in t m j s ps = cond_both (same star (layer s)) _ _ RunIn (λ e. assign_all_in t m 0 m ps) (λ e. assign_in t m j ps)

    step_in : (t : List ℕ) (n s : ℕ) (ps : List ℕ) → RunIn (step_of name layer t n s ps)
    unfolding step_of
    step_in t n s ps =
        let j = seek layer t (layer s) 0 n in
        cond_both (ltb j n) _ _ RunIn (λ e. touch_in t n j s ps)
        (λ e. cond_both (ltb n 32) _ _ RunIn (λ e. touch_in (new_row layer t n s) (n + 1) n s ps) (λ e. n23))

    verdict_in_lem : (v : Verdict) (a b : Run) → RunIn a → RunIn b → RunIn (on_verdict v a b)
    verdict_in_lem pass a b x y = x
    verdict_in_lem fail a b x y = y
    verdict_in_lem out a b x y = n8

    module _ (verdict_of : ℕ → Verdict) where
      hit_in : (t : List ℕ) (n s : ℕ) (ps : List ℕ) → RunIn (hit_of name layer verdict_of t n s ps)
      unfolding hit_of
      hit_in t n s ps = verdict_in_lem (verdict_of s) _ _ (step_in t n s ps) tt

      selectors_in : (t : List ℕ) (n s k : ℕ) (ps : List ℕ) → RunIn (selectors_of name layer verdict_of t n s k ps)
      unfolding selectors_of
      selectors_in t n s zero ps = tt
      selectors_in t n s (suc k) ps =
          bind_in (hit_of name layer verdict_of t n s ps) _ (hit_in t n s ps) (λ n t. selectors_in t n (s + 1) k ps)

      rules_in : (rules t : List ℕ) (n r k : ℕ) → RunIn (rules_of name layer verdict_of rules t n r k)
      unfolding rules_of rule_of
      rules_in rules t n r zero = tt
      rules_in rules t n r (suc k) =
          bind_in (rule_of name layer verdict_of rules t n r) _ (selectors_in t n _ _ _) (λ n t. rules_in rules t n (r + 1) k)

finish_in : (mp : Bool) (place : ℕ) (r : Run) → RunIn r → MapsIn (finish mp place r).0
unfolding finish
finish_in mp place (stop k) h = of_entity_lem k mp place h
finish_in mp place (going n t) h = tt

walk_in :
    (bundle : Bytes) (rules selectors tests properties : List ℕ) (numbers : List Float) (total zoom : ℕ)
    (s : Bytes) (e : EntityRange) (mp : Bool) (place : ℕ)
    → MapsIn (walk_of bundle rules selectors tests properties numbers total zoom s e mp place).0
unfolding walk_of
walk_in bundle rules selectors tests properties numbers total zoom s e mp place =
    pick_split (λ (x : Result ℕ Refusal × List ℕ). MapsIn x.0) (ltb 16384 total) _ _ (λ e. n22)
    (λ e. finish_in mp place _ (rules_in _ _ _ rules _ 0 0 total))

-- ---- entities

-- what holds of both ways holds of the choice
entity_split :
    {A : Type 0} (P : A → Type 0) (x : Option EntityRange) (a : A) (f : EntityRange → A)
    → P a
    → ((e : EntityRange) → P (f e))
    → P (on_option x a f)
unfolding on_option
entity_split P None a f h g = h
entity_split P (Some e) a f h g = g e

single_in : (s : Bytes) → SingleIn (single_of s)
unfolding single_of
single_in s =
    entity_split SingleIn (entity_at Any s 0) _ _ n7
    (λ e.
    pick_split SingleIn (eqb e.end (length s)) _ _
    (λ q. pick_split SingleIn _ _ _ (λ q. tt) (λ q. n2))
    (λ q. n7))

next_in : (sort : Sort) (mp : Bool) (s : Bytes) (at place : ℕ) → NextIn (next_of sort mp s at place)
unfolding next_of
next_in sort mp s at place =
    pick_split NextIn (ltb 1048576 (length s)) _ _
    (λ q. of_entity_lem 7 mp 0 n7)
    (λ q.
    pick_split NextIn (leb (length s) at) _ _ (λ q. tt)
    (λ q.
    entity_split NextIn (entity_at sort s at) _ _
    (of_entity_lem 7 mp place n7)
    (λ e. pick_split NextIn _ _ _ (λ q. tt) (λ q. of_entity_lem 2 mp place n2))))

-- ---- property maps and styles

single_split :
    {A : Type 0} (P : A → Type 0) (x : Result EntityRange Refusal) (f : Refusal → A) (g : EntityRange → A)
    → SingleIn x
    → ((e : Refusal) → OneOf entity_numbers e.number → P (f e))
    → ((e : EntityRange) → P (g e))
    → P (on_result x f g)
unfolding on_result
single_split P (Err e) f g h k l = k e h
single_split P (Ok e) f g h k l = l e

module _ (bundle : Bytes) (rules selectors tests properties : List ℕ) (numbers : List Float) (n : Counts) (zoom : ℕ) where
  maps_in : (entity : Bytes) → MapsIn (maps_of bundle rules selectors tests properties numbers n zoom entity).0
  unfolding maps_of
  maps_in entity =
      pick_split (λ (x : Result ℕ Refusal × List ℕ). MapsIn x.0) (tables_sound rules selectors tests properties numbers n (length bundle)) _ _
      (λ q.
      single_split (λ (x : Result ℕ Refusal × List ℕ). MapsIn x.0) (single_of entity) _ _ (single_in entity)
      (λ e h. h)
      (λ e. walk_in bundle rules selectors tests properties numbers n.rules zoom entity e false 0))
      (λ q. n22)

  styles_from_in :
      (kind : ℕ) (layer : _) (s : Settings) (x : Result ℕ Refusal × List ℕ)
      → MapsIn x.0
      → StyledIn (styles_from bundle selectors properties numbers kind layer s x)
  unfolding styles_from
  styles_from_in kind layer s (Err e, t) h = h
  styles_from_in kind layer s (Ok k, t) h = tt

  styles_in :
      (s : Settings) (entity : Bytes)
      → StyledIn (styles_of bundle rules selectors tests properties numbers n zoom s entity)
  unfolding styles_of
  styles_in s entity =
      pick_split (λ (x : Result EntityStyles Refusal). StyledIn x) (tables_sound rules selectors tests properties numbers n (length bundle)) _ _
      (λ q.
      single_split (λ (x : Result EntityStyles Refusal). StyledIn x) (single_of entity) _ _ (single_in entity)
      (λ e h. h)
      (λ e.
      styles_from_in _ _ s _
      (walk_in bundle rules selectors tests properties numbers n.rules zoom entity e false 0)))
      (λ q. n22)

pub maps_numbers : MapsNumbers
maps_numbers bundle rules selectors tests properties numbers n zoom entity e t p =
    subst (λ (x : Result ℕ Refusal × List ℕ). MapsIn x.0) p (maps_in bundle rules selectors tests properties numbers n zoom entity)

pub styles_numbers : StylesNumbers
styles_numbers bundle rules selectors tests properties numbers n zoom s entity e p =
    subst StyledIn p (styles_in bundle rules selectors tests properties numbers n zoom s entity)

-- ---- the canvas colour

pub canvas_numbers_lem : CanvasNumbers
unfolding canvas_of
canvas_numbers_lem bundle rules selectors tests properties numbers n t e p =
    subst CanvasIn p
    (pick_split CanvasIn (tables_sound rules selectors tests properties numbers n (length bundle)) _ _
    (λ q. tt)
    (λ q. first))

-- ---- drawing lists

push_in : (room : ℕ) (sofar : List Key) (g : Gathered) → GatheredIn g → GatheredIn (push room sofar g)
unfolding push
push_in room sofar (stopped e) h = h
push_in room sofar (gathered l) h = pick_split GatheredIn (ltb room (length sofar + length l)) _ _ (λ q. m25) (λ q. tt)

gathered_split :
    {A : Type 0} (P : A → Type 0) (x : Gathered) (f : Refusal → A) (g : List Key → A)
    → GatheredIn x
    → ((e : Refusal) → OneOf list_numbers e.number → P (f e))
    → ((l : List Key) → P (g l))
    → P (on-Gathered x f g)
unfolding on-Gathered
gathered_split P (stopped e) f g h k l = k e h
gathered_split P (gathered x) f g h k l = l x

next_split :
    {A : Type 0} (P : A → Type 0) (x : Result (Option EntityRange) Refusal) (f : Refusal → A) (a : A) (g : EntityRange → A)
    → NextIn x
    → ((e : Refusal) → OneOf entity_numbers e.number → P (f e))
    → P a
    → ((e : EntityRange) → P (g e))
    → P (on_result_option x f a g)
unfolding on_result on_option
next_split P (Err e) f a g h k i l = k e h
next_split P (Ok None) f a g h k i l = i
next_split P (Ok (Some e)) f a g h k i l = l e

after_in : (t : Turn Spot Gathered) (rest : Spot → Gathered) → TurnIn t → ((x : Spot) → GatheredIn (rest x)) → GatheredIn (after t rest)
after_in (more x) rest h k = k x
after_in (done g) rest h k = h

turns_in :
    (f : Spot → Turn Spot Gathered) (d : Gathered)
    → ((x : Spot) → TurnIn (f x))
    → GatheredIn d
    → (n : ℕ) (x : Spot)
    → GatheredIn (turns f d n x)
unfolding turns
turns_in f d h i zero x = i
turns_in f d h i (suc n) x = after_in (f x) (turns f d n) (h x) (turns_in f d h i n)

module _ (bundle : Bytes) (rules selectors tests properties : List ℕ) (numbers : List Float) (total zoom : ℕ) (for_labels : Bool) where
  keys_in_lem :
      (mp : Bool) (place kind id : ℕ) (layer : _) (x : Result ℕ Refusal × List ℕ)
      → MapsIn x.0
      → GatheredIn (keys_in bundle selectors properties numbers for_labels mp place kind id layer x)
  unfolding keys_in
  keys_in_lem mp place kind id layer (Err e, t) h = wider h
  keys_in_lem mp place kind id layer (Ok k, t) h = pick_split GatheredIn _ _ _ (λ q. of_entity_lem 9 mp place m9) (λ q. tt)

  gather_in :
      (room : ℕ) (sort : Sort) (mp : Bool) (s : Bytes) (sofar : List Key)
      → GatheredIn (gather_of bundle rules selectors tests properties numbers total zoom for_labels room sort mp s sofar)
  unfolding gather_of gather_turn
  gather_in room sort mp s sofar =
      turns_in _ (gathered sofar)
      (λ x.
      next_split TurnIn (next_of sort mp s x.at x.place) _ _ _
      (next_in sort mp s x.at x.place)
      (λ e h. wider h) tt
      (λ e.
      gathered_split TurnIn _ _ _
      (push_in room x.keys _
      (keys_in_lem mp x.place e.kind e.id _ _
      (walk_in bundle rules selectors tests properties numbers total zoom s e mp x.place)))
      (λ e h. h)
      (λ l. tt)))
      tt (suc (length s)) _

listed_in : (len : ℕ) (g : Gathered) → GatheredIn g → ListIn (listed len g).0
unfolding listed
listed_in len (stopped e) h = h
listed_in len (gathered l) h = tt

pub nodes_numbers : NodesNumbers
unfolding nodes_of
nodes_numbers bundle rules selectors tests properties numbers n zoom s len nodes e words p =
    let gather = gather_in bundle rules selectors tests properties numbers n.rules zoom s.for_labels (room_of len) in
    subst (λ (x : Result ℕ Refusal × List ℕ). ListIn x.0) p
    (listed_in len _
    (pick_split GatheredIn (tables_sound rules selectors tests properties numbers n (length bundle)) _ _
    (λ q. gathered_split GatheredIn _ _ _ (gather Nodes false nodes []) (λ e h. h) (λ l. tt))
    (λ q. wider n22)))

pub areas_numbers : AreasNumbers
unfolding areas_of
areas_numbers bundle rules selectors tests properties numbers n zoom s len ways multipolygons e words p =
    let gather = gather_in bundle rules selectors tests properties numbers n.rules zoom s.for_labels (room_of len) in
    subst (λ (x : Result ℕ Refusal × List ℕ). ListIn x.0) p
    (listed_in len _
    (pick_split GatheredIn (tables_sound rules selectors tests properties numbers n (length bundle)) _ _
    (λ q.
    gathered_split GatheredIn _ _ _ (gather Areas false ways []) (λ e h. h)
    (λ ws. gathered_split GatheredIn _ _ _ (gather Areas true multipolygons ws) (λ e h. h) (λ l. tt)))
    (λ q. wider n22)))
