-- Reading on from a stack of open containers.
use Rattle.std.proofs.Common.{◌≡◌, ℕ, zero, suc, ◌+◌, ◌-◌, ◌<◌, ◌≤◌, Bool, true, List, [], ◌∷◌, ◌++◌, length, Option, Some, None, refl, sym, ap, subst, ◌∙◌, append_assoc, arith}
use Rattle.std.specs.Prelude.{slice_get, set, Result, Ok, Err, IfOk}
use Rattle.std.proofs.lemmas.List.{append-nil, length_push}
use Rattle.newt_graph.specs.declared.node.Node.{Node}
use Rattle.newt_graph.specs.declared.node.Ref.{Ref}
use Rattle.newt_graph.specs.declared.node.Ref.TheVariants as refs
use Rattle.newt_graph.specs.Steps.{◌>>=◌}
use Rattle.newt_nsof_read.specs.declared.open.Kind.{Kind}
use Rattle.newt_nsof_read.specs.declared.open.Kind.TheVariants as kinds
use Rattle.newt_nsof_read.specs.declared.open.Front.{Front}
use Rattle.newt_nsof_read.specs.declared.open.Front.TheVariants as fronts
use Rattle.newt_nsof_read.specs.Met.{Met}
use Rattle.newt_nsof_read.specs.Opened.{Opened}
use Rattle.newt_nsof_read.specs.Reading.{filled, many_at, is_other, object_at}
use Rattle.newt_nsof_read.specs.Stack.{node_of, with_value, closed, rest_at, onward, resumed, whole, IsOpen, AreOpen, awaited}

-- ---- one container

-- a step, and what is done with its value
pub bind_through : {A B C : Type 0} (m : Option A) (f : A → Option B) (g : B → Option C) (h : A → Option C) → ((x : A) → h x ≡ (f x >>= g)) → (m >>= h) ≡ ((m >>= f) >>= g)
bind_through (Some x) f g h same = same x
bind_through None f g h same = refl

-- the values that are read after another one
closed_push : (o : Opened) (v : Ref) (read : Option (List Ref × Met × List ℕ)) → (read >>= closed (with_value o v)) ≡ ((read >>= λ others. Some (v ∷ others.0, others.1, others.2)) >>= closed o)
closed_push o v None = refl
closed_push o v (Some x) = ap (λ (vs : List Ref). Some (refs.Node o.n, filled x.1 o.n (node_of o.kind vs), x.2)) (append_assoc o.values (v ∷ []) x.0)

onward_is : (wide : Bool) (room : ℕ) (o : Opened) (m : ℕ) (v : Ref × Met × List ℕ) → o.count - (length o.values + 1) ≡ m
    → onward wide room o v ≡ ((many_at (λ met rest. object_at wide room met rest) m v.1 v.2 >>= λ others. Some (v.0 ∷ others.0, others.1, others.2)) >>= closed o)
unfolding rest_at
onward_is wide room o m v is =
    let same : o.count - length (o.values ++ v.0 ∷ []) ≡ m = rw (length_push o.values v.0) is in
    rw same (closed_push o v.0 (many_at (λ met rest. object_at wide room met rest) m v.1 v.2))

-- a container that lacks a value reads one, and goes on
pub rest_more : (wide : Bool) (room : ℕ) (o : Opened) (met : Met) (bytes : List ℕ) → length o.values < o.count → rest_at wide room o met bytes ≡ (object_at wide room met bytes >>= onward wide room o)
unfolding rest_at many_at
rest_more wide room o met bytes lt =
    let m : ℕ = o.count - (length o.values + 1) in
    let left : o.count - length o.values ≡ suc (o.count - (length o.values + 1)) = omega arith in
    rw left (sym (bind_through (object_at wide room met bytes) (λ first. many_at (λ met rest. object_at wide room met rest) (o.count - (length o.values + 1)) first.1 first.2 >>= λ others. Some (first.0 ∷ others.0, others.1, others.2))
    (closed o) (onward wide room o) (λ v. onward_is wide room o (o.count - (length o.values + 1)) v refl)))

-- a full container
pub rest_none : (wide : Bool) (room : ℕ) (o : Opened) (met : Met) (bytes : List ℕ) → o.count ≤ length o.values → rest_at wide room o met bytes ≡ Some (refs.Node o.n, filled met o.n (node_of o.kind o.values), bytes)
unfolding rest_at many_at
rest_none wide room o met bytes le =
    let left : o.count - length o.values ≡ 0 = omega arith in
    rw left (ap (λ (vs : List Ref). Some (refs.Node o.n, filled met o.n (node_of o.kind vs), bytes)) (append-nil o.values))

-- ---- containers within one another

pub resumed_none : (wide : Bool) (room : ℕ) (os : List Opened) → resumed wide room os None ≡ None
unfolding resumed
resumed_none wide room [] = refl
resumed_none wide room (o ∷ os) = rw (resumed_none wide (room - 1) os) refl

-- the innermost comes first
pub resumed_push : (wide : Bool) (room : ℕ) (os : List Opened) (o : Opened) (read : Option (Ref × Met × List ℕ)) → resumed wide room (os ++ o ∷ []) read ≡ resumed wide room os (read >>= onward wide (room - length os - 1) o)
unfolding resumed
resumed_push wide room [] o read =
    let same : room - 0 - 1 ≡ room - 1 = omega arith in
    rw same refl
resumed_push wide room (p ∷ os) o read =
    let same : room - 1 - length os - 1 ≡ room - suc (length os) - 1 = omega arith in
    ap (λ (r : Option (Ref × Met × List ℕ)). r >>= onward wide (room - 1) p) (resumed_push wide (room - 1) os o read ∙ ap (λ (n : ℕ). resumed wide (room - 1) os (read >>= onward wide n o)) same)

-- a container that lacks a value waits for it on the stack
pub waits : (wide : Bool) (os : List Opened) (o : Opened) (met : Met) (rest : List ℕ) → length o.values < o.count → awaited wide None (os ++ o ∷ []) met rest ≡ resumed wide 200 os (rest_at wide (200 - length os - 1) o met rest)
waits wide os o met rest lt =
    let room : 200 - length (os ++ o ∷ []) ≡ 200 - length os - 1 = omega (arith, length_push os o) in
    rw room (resumed_push wide 200 os o (object_at wide (200 - length os - 1) met rest) ∙ ap (resumed wide 200 os) (sym (rest_more wide (200 - length os - 1) o met rest lt)))

-- ---- open containers stay

pub AreOpen-push : (met : Met) (os : List Opened) (o : Opened) → AreOpen met os → IsOpen met o → AreOpen met (os ++ o ∷ [])
AreOpen-push met [] o all one = (one, tt)
AreOpen-push met (p ∷ os) o all one = (all.0, AreOpen-push met os o all.1 one)

pub AreOpen-pop : (met : Met) (os : List Opened) (o : Opened) → AreOpen met (os ++ o ∷ []) → AreOpen met os × IsOpen met o
AreOpen-pop met [] o all = (tt, all.0)
AreOpen-pop met (p ∷ os) o all = let t = AreOpen-pop met os o all.1 in ((all.0, t.0), t.1)

-- what is no symbol stays none
abbrev pub Stays : Met → Met → Type 0
Stays a b = (k : ℕ) → is_other (slice_get a.nodes k) ≡ true → is_other (slice_get b.nodes k) ≡ true

pub AreOpen-stays : (a b : Met) → Stays a b → (os : List Opened) → AreOpen a os → AreOpen b os
AreOpen-stays a b stays [] all = tt
AreOpen-stays a b stays (o ∷ os) all = (stays o.n all.0, AreOpen-stays a b stays os all.1)

set_stays : (nodes : List Node) (n : ℕ) (node : Node) → is_other (Some node) ≡ true → (k : ℕ) → is_other (slice_get nodes k) ≡ true → is_other (slice_get (set nodes n node) k) ≡ true
set_stays [] n node other k h = h
set_stays (x ∷ xs) zero node other zero h = other
set_stays (x ∷ xs) zero node other (suc k) h = h
set_stays (x ∷ xs) (suc n) node other zero h = h
set_stays (x ∷ xs) (suc n) node other (suc k) h = set_stays xs n node other k h

pub node_is_other : (kind : Kind) (values : List Ref) → is_other (Some (node_of kind values)) ≡ true
node_is_other (kinds.Frame tags) values = refl
node_is_other (kinds.Array class) values = refl

pub filled_stays : (met : Met) (n : ℕ) (kind : Kind) (values : List Ref) → Stays met (filled met n (node_of kind values))
filled_stays met n kind values = set_stays met.nodes n (node_of kind values) (node_is_other kind values)

pub stays_filled : (met then : Met) (n : ℕ) (kind : Kind) (values : List Ref) (os : List Opened) → then ≡ filled met n (node_of kind values) → AreOpen met os → AreOpen then os
stays_filled met then n kind values os is all = rw is (AreOpen-stays met (filled met n (node_of kind values)) (filled_stays met n kind values) os all)

-- ---- a value for the innermost container

-- the innermost container is taken from the stack, and has one value more
pub record Taken (all os : List Opened) (o more : Opened) (v : Ref) : Type 0 where
  pub popped : all ≡ os ++ o ∷ []
  pub pushed : more ≡ with_value o v

pub taken_open : (met : Met) (all os : List Opened) (o more : Opened) (v : Ref) → Taken all os o more v → AreOpen met all → AreOpen met os × IsOpen met more
taken_open met all os o more v t open_all =
    let was = AreOpen-pop met os o (subst (AreOpen met) t.popped open_all) in
    (was.0, subst (IsOpen met) (sym t.pushed) was.1)

taken_reads : (met : Met) (all os : List Opened) (o more : Opened) (v : Ref) → Taken all os o more v → (wide : Bool) (rest : List ℕ) → resumed wide 200 all (Some (v, met, rest)) ≡ resumed wide 200 os (rest_at wide (200 - length os - 1) more met rest)
taken_reads met all os o more v t wide rest = rw (t.popped, t.pushed) (resumed_push wide 200 os o (Some (v, met, rest)))

pub taken_waits : (met : Met) (all os after : List Opened) (o more : Opened) (v : Ref) → Taken all os o more v → after ≡ os ++ more ∷ [] → length more.values < more.count
    → (wide : Bool) (rest : List ℕ) → awaited wide None after met rest ≡ resumed wide 200 all (Some (v, met, rest))
taken_waits met all os after o more v t is lt wide rest = rw is (waits wide os more met rest lt ∙ sym (taken_reads met all os o more v t wide rest))

pub taken_closes : (met then : Met) (all os : List Opened) (o more : Opened) (v value : Ref) → Taken all os o more v → more.count ≤ length more.values → value ≡ refs.Node more.n → then ≡ filled met more.n (node_of more.kind more.values)
    → (wide : Bool) (rest : List ℕ) → resumed wide 200 os (Some (value, then, rest)) ≡ resumed wide 200 all (Some (v, met, rest))
taken_closes met then all os o more v value t le is filled_is wide rest =
    rw (is, filled_is) (ap (resumed wide 200 os) (sym (rest_none wide (200 - length os - 1) more met rest le)) ∙ sym (taken_reads met all os o more v t wide rest))

-- ---- a container that was just opened

pub entered_waits : (met : Met) (os after : List Opened) (o : Opened) (front : Front) → front ≡ fronts.Open o → after ≡ os ++ o ∷ [] → length o.values < o.count
    → (wide : Bool) (rest : List ℕ) → awaited wide None after met rest ≡ resumed wide 200 os (whole wide (200 - length os - 1) (front, met, rest))
entered_waits met os after o front is after_is lt wide rest = rw (is, after_is) (waits wide os o met rest lt)

pub entered_closes : (met then : Met) (os : List Opened) (o : Opened) (front : Front) (value : Ref) → front ≡ fronts.Open o → o.count ≤ length o.values → value ≡ refs.Node o.n → then ≡ filled met o.n (node_of o.kind o.values)
    → (wide : Bool) (rest : List ℕ) → resumed wide 200 os (Some (value, then, rest)) ≡ resumed wide 200 os (whole wide (200 - length os - 1) (front, met, rest))
entered_closes met then os o front value is le value_is filled_is wide rest =
    rw (is, value_is, filled_is) (ap (resumed wide 200 os) (sym (rest_none wide (200 - length os - 1) o met rest le)))

pub if_ok : {A E : Type 0} (r : Result A E) (P Q : A → Type 0) → ((x : A) → P x → Q x) → IfOk r P → IfOk r Q
if_ok (Ok x) P Q more h = more x h
if_ok (Err e) P Q more h = h
