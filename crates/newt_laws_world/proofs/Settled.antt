-- Cursors after a command: what stays settled by itself.
use Rattle.std.proofs.Common.{arith, ◌≡◌, refl, ap, sym, ◌∙◌, subst, ℕ, zero, suc, List, [], ◌∷◌, true, false, Bool, ◌&&◌, inl, inr, cond, Option, Some, None, option_map, unwrap_or, map, filter, find, slice_set, ◌==◌, ℤ, pos, negsuc}
use Rattle.std.specs.Prelude.{slice_get}
use Rattle.std.specs.Bool.{⊤}
use Rattle.std.specs.List.{last_or}
use Rattle.newt_base.specs.declared.Refusal.{Refusal}
use Rattle.newt_base.specs.Refusals.{first_of}
use Rattle.newt_spec_store.specs.Keys.{IndexSpec, Key}
use Rattle.newt_spec_query.specs.Hits.{Hit, Query}
use Rattle.newt_spec_query.specs.Cursor.{Place, start, finish, on, Cursor, settled, same_identity, first_place, last_place, next_place, previous_place, moved, repeated, place_at_key, on_or, is_after, is_before}
use Rattle.newt_spec_world.specs.declared.command.Command.{Command}
use Rattle.newt_spec_world.specs.World.{World, settle, settle_cursor, hits_of, flat, change_at}
use Rattle.newt_spec_world.specs.Changed.{changed}
use Rattle.newt_spec_world.specs.Refused.{checks}
use Rattle.newt_spec_world.specs.Answer.{answer, answered}
use Rattle.newt_spec_graph.specs.Lists.{Each, Pairs, Among}
use Rattle.newt_laws_world.specs.Settled.{IsSettled}
use Rattle.newt_spec_graph.proofs.Lists.{each-at, among-filter, some-same, none-some}
use Rattle.newt_laws_world.proofs.Found.{Other}
pub use Rattle.newt_laws_images.proofs.Chosen.{find-passes}

-- ---- to settle twice

pub three-equal : (a b : Hit) → same_identity a b ≡ true → (a.store ≡ b.store) × (a.soup ≡ b.soup) × (a.uid ≡ b.uid)
three-equal a b h = (grind arith, grind arith, grind arith)

by_identity : ℕ → ℕ → ℕ → Hit → Bool
by_identity s p u h = (s == h.store) && (p == h.soup) && (u == h.uid)

find-same : (hs : List Hit) (at h : Hit) → find (same_identity at) hs ≡ Some h → find (same_identity h) hs ≡ Some h
unfolding by_identity
find-same hs at h e =
    let i = three-equal at h (find-passes (same_identity at) hs h e).0 in
    ap (λ s. find (by_identity s h.soup h.uid) hs) (sym i.0) ∙ ap (λ p. find (by_identity at.store p h.uid) hs) (sym i.1) ∙ ap (λ u. find (by_identity at.store at.soup u) hs) (sym i.2) ∙ e

settled-twice : (hs : List Hit) (place : Place) → settled hs (settled hs place) ≡ settled hs place
settled-twice hs start = refl
settled-twice hs finish = refl
settled-twice hs (on at) = go (find (same_identity at) hs) refl
  where
    go : (o : Option Hit) → find (same_identity at) hs ≡ o → settled hs (unwrap_or (option_map on o) (on at)) ≡ unwrap_or (option_map on o) (on at)
    go None e = ap (λ o. unwrap_or (option_map on o) (on at)) e
    go (Some h) e = ap (λ o. unwrap_or (option_map on o) (on h)) (find-same hs at h e)

map-twice : {X : Type 0} (f : X → X) → ((x : X) → f (f x) ≡ f x) → (xs : List (Option X)) → map (option_map f) (map (option_map f) xs) ≡ map (option_map f) xs
map-twice f h [] = refl
map-twice f h (None ∷ xs) = ap (λ ys. None ∷ ys) (map-twice f h xs)
map-twice f h (Some x ∷ xs) = ap (λ ys. Some (f (f x)) ∷ ys) (map-twice f h xs) ∙ ap (λ y. Some y ∷ map (option_map f) xs) (h x)

pub settle-settles : (w : World) → IsSettled (settle w)
settle-settles w = ap {A = List (Option Cursor)} {B = World} (λ cs. record w { cursors = cs })
    (map-twice (settle_cursor w) (λ k. ap {A = Place} {B = Cursor} (λ p. record k { place = p }) (settled-twice (hits_of w k.query) k.place)) w.cursors)

pub answer-settled : (w : World) (c : Command) → IsSettled w → IsSettled (answer w c).0
unfolding answer
answer-settled w c h = go (first_of (checks w c))
  where
    go : (o : Option Refusal) → IsSettled (answered w c o).0
    go None = settle-settles (changed w c)
    go (Some r) = h

-- ---- settled, cursor by cursor

abbrev pub OnCursor : (Cursor → Type 0) → Option Cursor → Type 0
OnCursor P None = ⊤
OnCursor P (Some k) = P k

-- the cursor shows what the hits have
abbrev pub Shows : (Query → List Hit) → Cursor → Type 0
Shows hs k = settled (hs k.query) k.place ≡ k.place

abbrev pub AllShow : (Query → List Hit) → List (Option Cursor) → Type 0
AllShow hs cs = Each (OnCursor (Shows hs)) cs

map-fixed : (f : Cursor → Cursor) (cs : List (Option Cursor)) → map (option_map f) cs ≡ cs → Each (OnCursor (λ k. f k ≡ k)) cs
map-fixed f [] h = tt
map-fixed f (None ∷ cs) h = (tt, map-fixed f cs (tail-same h))
  where
    tail-same : {x y : Option Cursor} {xs ys : List (Option Cursor)} → x ∷ xs ≡ y ∷ ys → xs ≡ ys
    tail-same h = cc
map-fixed f (Some k ∷ cs) h = (head-same h, map-fixed f cs (tail-same h))
  where
    tail-same : {x y : Option Cursor} {xs ys : List (Option Cursor)} → x ∷ xs ≡ y ∷ ys → xs ≡ ys
    tail-same h = cc

    head-same : {x y : Cursor} {xs ys : List (Option Cursor)} → Some x ∷ xs ≡ Some y ∷ ys → x ≡ y
    head-same h = cc

fixed-map : (f : Cursor → Cursor) (cs : List (Option Cursor)) → Each (OnCursor (λ k. f k ≡ k)) cs → map (option_map f) cs ≡ cs
fixed-map f [] h = refl
fixed-map f (None ∷ cs) h = ap (λ xs. None ∷ xs) (fixed-map f cs h.1)
fixed-map f (Some k ∷ cs) h = ap (λ xs. Some (f k) ∷ xs) (fixed-map f cs h.1) ∙ ap (λ x. Some x ∷ cs) h.0

pub cursors-more : (P Q : Cursor → Type 0) (cs : List (Option Cursor)) → ((k : Cursor) → P k → Q k) → Each (OnCursor P) cs → Each (OnCursor Q) cs
cursors-more P Q [] f h = tt
cursors-more P Q (None ∷ cs) f h = (tt, cursors-more P Q cs f h.1)
cursors-more P Q (Some k ∷ cs) f h = (f k h.0, cursors-more P Q cs f h.1)

pub shows-from : (w : World) → IsSettled w → AllShow (hits_of w) w.cursors
shows-from w h = cursors-more (λ k. settle_cursor w k ≡ k) (Shows (hits_of w)) w.cursors (λ k e. ap (λ (k : Cursor). k.place) e)
    (map-fixed (settle_cursor w) w.cursors (ap (λ (v : World). v.cursors) h))

pub settled-from : (w : World) → AllShow (hits_of w) w.cursors → IsSettled w
settled-from w h = ap {A = List (Option Cursor)} {B = World} (λ cs. record w { cursors = cs })
    (fixed-map (settle_cursor w) w.cursors (cursors-more (Shows (hits_of w)) (λ k. settle_cursor w k ≡ k) w.cursors (λ k e. ap {A = Place} {B = Cursor} (λ p. record k { place = p }) e) h))

-- ---- fewer hits

pub only-one : (hs : List Hit) (a b : Hit) → Pairs Other hs → Among hs a → Among hs b → a.store ≡ b.store → a.soup ≡ b.soup → a.uid ≡ b.uid → a ≡ b
only-one [] a b h m n s p u = absurd m
only-one (x ∷ hs) a b h (inl e) (inl f) s p u = sym e ∙ f
only-one (x ∷ hs) a b h (inl e) (inr n) s p u =
    absurd (each-at (Other x) hs b h.0 n (ap (λ (v : Hit). v.store) e ∙ s) (ap (λ (v : Hit). v.soup) e ∙ p) (ap (λ (v : Hit). v.uid) e ∙ u))
only-one (x ∷ hs) a b h (inr m) (inl f) s p u =
    absurd (each-at (Other x) hs a h.0 m (ap (λ (v : Hit). v.store) f ∙ sym s) (ap (λ (v : Hit). v.soup) f ∙ sym p) (ap (λ (v : Hit). v.uid) f ∙ sym u))
only-one (x ∷ hs) a b h (inr m) (inr n) s p u = only-one hs a b h.1 m n s p u

pub find-some : {X : Type 0} (test : X → Bool) (xs : List X) (x : X) → Among xs x → test x ≡ true → (y : X) × (find test xs ≡ Some y)
find-some test [] x m h = absurd m
find-some test (y ∷ xs) x m h = go (λ n. find-some test xs x n h) (test y) refl m
  where
    go : (Among xs x → (z : _) × (find test xs ≡ Some z)) → (b : Bool) → test y ≡ b → Among (y ∷ xs) x → (z : _) × (cond b (Some y) (find test xs) ≡ Some z)
    go more true e n = (y, refl)
    go more false e (inl s) = absurd (Rattle.newt_spec_graph.proofs.Lists.both-ways (sym e ∙ ap test s ∙ h))
    go more false e (inr n) = more n

same-self : (h : Hit) → same_identity h h ≡ true
same-self h = grind arith

-- a place on a hit that is there is settled
pub shows-hit : (hs : List Hit) (h : Hit) → Pairs Other hs → Among hs h → settled hs (on h) ≡ on h
shows-hit hs h apart m =
    let f = find-some (same_identity h) hs h m (same-self h) in
    let r = find-passes (same_identity h) hs f.0 f.1 in
    let i = three-equal h f.0 r.0 in
    ap (λ o. unwrap_or (option_map on o) (on h)) f.1 ∙ ap on (only-one hs f.0 h apart r.1 m (sym i.0) (sym i.1) (sym i.2))

pub shows-fewer : (hs fewer : List Hit) → Pairs Other hs → ((h : Hit) → Among fewer h → Among hs h) → (place : Place) → settled hs place ≡ place → settled fewer place ≡ place
shows-fewer hs fewer apart sub start h = refl
shows-fewer hs fewer apart sub finish h = refl
shows-fewer hs fewer apart sub (on at) h = go (find (same_identity at) fewer) refl
  where
    go : (o : Option Hit) → find (same_identity at) fewer ≡ o → unwrap_or (option_map on o) (on at) ≡ on at
    go None e = refl
    go (Some x) e =
        let r = find-passes (same_identity at) fewer x e in
        let m = sub x r.1 in
        let f = find-some (same_identity at) hs x m r.0 in
        let q = find-passes (same_identity at) hs f.0 f.1 in
        let i = three-equal at x r.0 in
        let j = three-equal at f.0 q.0 in
        ap on (only-one hs x f.0 apart m q.1 (sym i.0 ∙ j.0) (sym i.1 ∙ j.1) (sym i.2 ∙ j.2))
        ∙ sym (ap (λ o. unwrap_or (option_map on o) (on at)) f.1) ∙ h

-- ---- steps

-- a place that is no hit, or a hit that is there
abbrev pub Stands : List Hit → Place → Type 0
Stands hs place = settled hs place ≡ place

first-stands : (hs fewer : List Hit) → Pairs Other hs → ((h : Hit) → Among fewer h → Among hs h) → Stands hs (first_place fewer)
first-stands hs [] apart sub = refl
first-stands hs (h ∷ fewer) apart sub = shows-hit hs h apart (sub h (inl refl))

last-stands : (hs : List Hit) (o : Option Hit) (fewer : List Hit) → Pairs Other hs → ((h : Hit) → o ≡ Some h → Among hs h) → ((h : Hit) → Among fewer h → Among hs h) → Stands hs (on_or start (last_or o fewer))
last-stands hs None [] apart here sub = refl
last-stands hs (Some h) [] apart here sub = shows-hit hs h apart (here h refl)
last-stands hs o (h ∷ fewer) apart here sub = last-stands hs (Some h) fewer apart (λ x e. subst (Among hs) (some-same h x e) (sub h (inl refl))) (λ x m. sub x (inr m))

pub next-stands : (hs : List Hit) (index : IndexSpec) (place : Place) → Pairs Other hs → Stands hs (next_place hs index place)
next-stands hs index place apart = first-stands hs (filter (is_after index place) hs) apart (λ h m. (among-filter (is_after index place) hs h m).0)

pub previous-stands : (hs : List Hit) (index : IndexSpec) (place : Place) → Pairs Other hs → Stands hs (previous_place hs index place)
previous-stands hs index place apart = last-stands hs None (filter (is_before index place) hs) apart (λ h e. absurd (none-some h e)) (λ h m. (among-filter (is_before index place) hs h m).0)

repeated-stands : (hs : List Hit) (n : ℕ) (f : Place → Place) (place : Place) → ((p : Place) → Stands hs (f p)) → Stands hs place → Stands hs (repeated n f place)
repeated-stands hs zero f place h k = k
repeated-stands hs (suc n) f place h k = repeated-stands hs n f (f place) h (h place)

pub moved-stands : (k : ℤ) (hs : List Hit) (index : IndexSpec) (place : Place) → Pairs Other hs → Stands hs place → Stands hs (moved k hs index place)
moved-stands (pos n) hs index place apart h = repeated-stands hs n (next_place hs index) place (λ p. next-stands hs index p apart) h
moved-stands (negsuc n) hs index place apart h = repeated-stands hs (suc n) (previous_place hs index) place (λ p. previous-stands hs index p apart) h

pub reset-stands : (hs : List Hit) → Pairs Other hs → Stands hs (first_place hs)
reset-stands hs apart = first-stands hs hs apart (λ h m. m)

pub end-stands : (hs : List Hit) → Pairs Other hs → Stands hs (last_place hs)
end-stands hs apart = last-stands hs None hs apart (λ h e. absurd (none-some h e)) (λ h m. m)

pub key-stands : (hs : List Hit) (index : IndexSpec) (k : Key) → Pairs Other hs → Stands hs (place_at_key hs index k)
key-stands hs index k apart = first-stands hs _ apart (λ h m. (among-filter _ hs h m).0)

-- ---- lists of cursors

pub each-change-at : {X : Type 0} (P : X → Type 0) (E : Option X → Type 0) → ((x : X) → E (Some x) → P x) → ((x : X) → P x → E (Some x)) → (n : ℕ) (f : X → X) (xs : List (Option X)) → Each E xs
    → ((x : X) → flat (slice_get xs n) ≡ Some x → P x → P (f x)) → Each E (change_at n f xs)
each-change-at P E out into n f [] h k = tt
each-change-at P E out into zero f (None ∷ xs) h k = h
each-change-at P E out into zero f (Some x ∷ xs) h k = (into (f x) (k x refl (out x h.0)), h.1)
each-change-at P E out into (suc n) f (x ∷ xs) h k = (h.0, each-change-at P E out into n f xs h.1 k)

pub each-set : {X : Type 0} (P : X → Type 0) (xs : List X) (n : ℕ) (v : X) → Each P xs → P v → Each P (slice_set xs n v)
each-set P [] n v h k = tt
each-set P (x ∷ xs) zero v h k = (k, h.1)
each-set P (x ∷ xs) (suc n) v h k = (h.0, each-set P xs n v h.1 k)
