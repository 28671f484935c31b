-- Objects as they are planned, one after the other.
use Rattle.std.proofs.Common.{◌≡◌, ◌≢◌, ℕ, zero, suc, ◌+◌, ◌<◌, ◌%◌, ◌⊎◌, inl, inr, Bool, cond, List, [], ◌∷◌, ◌++◌, map as map_list, length, length-append, take, get_or, sum_by, Option, Some, None, refl, sym, ◌∙◌, ap, subst, arith, ⊎_elim}
use Rattle.std.specs.FinMap as map
use Rattle.std.proofs.lemmas.Bool.{cases_eq}
use Rattle.std.proofs.lemmas.List.{map-append, take_more}
use Rattle.std.proofs.lemmas.List.Sums.{sum_by-append}
use Rattle.newt_spec_image.specs.Pages.{Pages, Change}
use Rattle.newt_spec_image.specs.Objects.{Extent, pages_for, Objects}
use Rattle.newt_pagebook.proofs.Tests.{equal_true, equal_false, some_inj}
use Rattle.newt_pagebook.proofs.Changes.{get_insert, get_remove}
use Rattle.newt_objects.specs.Extents.{numbers_of}
use Rattle.newt_objects.specs.Held.{Held, held}
use Rattle.newt_objects.specs.Changing.{IsUnderWay}
use Rattle.newt_spec_graph.specs.Lists.{Among}
use Rattle.newt_spec_graph.proofs.Lists.{each-at, among-append, among-left, among-right}
use Rattle.newt_objects_commit.specs.declared.batch.NewEntry.{NewEntry}
use Rattle.newt_objects_commit.specs.declared.batch.NewLarge.{NewLarge}
use Rattle.newt_objects_commit.specs.Batch.{HasPut, HasNone, HasIds, HasLarges, HasEntry, HasEntries, AreApart, IsApart, AreOnce, HasDirectory, AreWritten, AddsPages, large_ids, pages_held, all_pages_held, over_pages}

-- ---- elements of lists

pub among-get : {X : Type 0} (xs : List X) (i : ℕ) (d : X) → i < length xs → Among xs (get_or xs i d)
among-get [] i d low = absurd (omega (arith, low))
among-get (x ∷ xs) zero d low = inl refl
among-get (x ∷ xs) (suc i) d low = inr (among-get xs i d (omega (arith, low)))

pub among-map : {X Y : Type 0} (f : X → Y) (xs : List X) (x : X) → Among xs x → Among (map_list f xs) (f x)
among-map f [] x m = absurd m
among-map f (y ∷ xs) x (inl e) = inl (ap f e)
among-map f (y ∷ xs) x (inr m) = inr (among-map f xs x m)

among-one : {X : Type 0} (x z : X) → Among (x ∷ []) z → x ≡ z
among-one x z (inl e) = e
among-one x z (inr m) = absurd m

-- an id is not among those before it, where none stands twice
pub not_yet : (ids : List ℕ) (i : ℕ) → AreOnce ids → i < length ids → Among (take i ids) (get_or ids i 0) → ⊥
not_yet [] i once low m = absurd (omega (arith, low))
not_yet (id ∷ ids) zero once low m = m
not_yet (id ∷ ids) (suc i) once low (inl e) = each-at (λ z. id ≢ z) ids (get_or ids i 0) once.0 (among-get ids i 0 (omega (arith, low))) e
not_yet (id ∷ ids) (suc i) once low (inr m) = not_yet ids i once.1 (omega (arith, low)) m

-- the item of a loop is an element, and it comes after those before it
pub among-item : {X : Type 0} (xs : List X) (i : ℕ) (x : X) → i < length xs → x ≡ get_or xs i x → Among xs x
among-item xs i x low is = subst (λ y. Among xs y) (sym is) (among-get xs i x low)

pub take-item : {X : Type 0} (xs : List X) (i : ℕ) (x : X) → i < length xs → x ≡ get_or xs i x → take (i + 1) xs ≡ take i xs ++ x ∷ []
take-item xs i x low is = take_more xs i x low ∙ ap (λ y. take i xs ++ y ∷ []) (sym is)

-- ---- objects that are put, and objects that go

-- what is under way over a first part of the objects
abbrev pub KeepsUnderWay : (start now : Held) (first batch : Change) (Has : Objects → Objects → Type 0) → Type 0
KeepsUnderWay start now first batch Has = (live : Pages) (texts : Objects) → IsUnderWay start first live texts → (after : Objects) × IsUnderWay now batch live after × Has texts after

pub put-has : (id : ℕ) (bytes : List ℕ) (texts : Objects) → HasPut id bytes texts (map.insert texts id bytes)
put-has id bytes texts = record {
  object = get_insert texts id bytes id ∙ ap (λ (b : Bool). cond b (Some bytes) (map.get texts id)) (equal_true id id refl);
  others = λ q ne. get_insert texts id bytes q ∙ ap (λ (b : Bool). cond b (Some bytes) (map.get texts q)) (equal_false q id ne);
}

pub none-first : (texts : Objects) → HasNone [] texts texts
none-first texts = record { gone = λ id among. absurd among; others = λ id none. refl }

-- one more that goes
pub none-more : (ids : List ℕ) (id : ℕ) (old mid : Objects) → HasNone ids old mid → HasNone (ids ++ id ∷ []) old (map.remove mid id)
none-more ids id old mid so_far = record {
  gone = λ q among. ⊎_elim
      (λ (same : q ≡ id). at_id q same)
      (λ (other : q ≢ id). at_other q other ∙ so_far.gone q (earlier q among other))
      (cases_eq q id);
  others = λ q none. at_other q (λ same. none (among-right ids (id ∷ []) q (inl (sym same)))) ∙ so_far.others q (λ among. none (among-left ids (id ∷ []) q among));
} where
  at_id : (q : ℕ) → q ≡ id → map.get (map.remove mid id) q ≡ None
  at_id q same = get_remove mid id q ∙ ap (λ (b : Bool). cond b None (map.get mid q)) (equal_true q id same)

  at_other : (q : ℕ) → q ≢ id → map.get (map.remove mid id) q ≡ map.get mid q
  at_other q other = get_remove mid id q ∙ ap (λ (b : Bool). cond b None (map.get mid q)) (equal_false q id other)

  earlier : (q : ℕ) → Among (ids ++ id ∷ []) q → q ≢ id → Among ids q
  earlier q among other = elim (among-append ids (id ∷ []) q among) [ inl before ↦ before | inr last ↦ absurd (other (sym (among-one id q last))) ]

-- the ids of large binaries
abbrev pub ids_of : List NewLarge → List ℕ
ids_of larges = map_list (λ l. l.id) larges

large-before : (larges : List NewLarge) (i : ℕ) (d : NewLarge) → AreOnce (ids_of larges) → i < length larges → Among (ids_of (take i larges)) (get_or larges i d).id → ⊥
large-before [] i d once low m = absurd (omega (arith, low))
large-before (l ∷ larges) zero d once low m = m
large-before (l ∷ larges) (suc i) d once low (inl e) =
    each-at (λ z. l.id ≢ z) (ids_of larges) (get_or larges i d).id once.0 (among-map (λ l. l.id) larges (get_or larges i d) (among-get larges i d (omega (arith, low)))) e
large-before (l ∷ larges) (suc i) d once low (inr m) = large-before larges i d once.1 (omega (arith, low)) m

-- the id of a large binary is not among those before it
pub large_not_yet : (larges : List NewLarge) (i : ℕ) (l : NewLarge) → AreOnce (ids_of larges) → i < length larges → l ≡ get_or larges i l → Among (ids_of (take i larges)) l.id → ⊥
large_not_yet larges i l once low is m = large-before larges i l once low (subst (λ (x : NewLarge). Among (ids_of (take i larges)) x.id) is m)

pub larges-first : (texts : Objects) → HasLarges [] texts texts
larges-first texts = record { objects = λ l among. absurd among; others = λ id none. refl }

-- the id of a large binary, and those before it
pub ids-more : (larges : List NewLarge) (l : NewLarge) (id : ℕ) → Among (ids_of larges) id ⊎ (l.id ≡ id) → Among (ids_of (larges ++ l ∷ [])) id
ids-more larges l id (inl before) = subst (λ (ids : List ℕ). Among ids id) (sym (map-append (λ l. l.id) larges (l ∷ []))) (among-left (ids_of larges) (l.id ∷ []) id before)
ids-more larges l id (inr last) = subst (λ (ids : List ℕ). Among ids id) (sym (map-append (λ l. l.id) larges (l ∷ []))) (among-right (ids_of larges) (l.id ∷ []) id (inl last))

-- one more large binary that is put
pub larges-more : (larges : List NewLarge) (l : NewLarge) (old mid new : Objects) → (Among (ids_of larges) l.id → ⊥) → HasLarges larges old mid → HasPut l.id l.bytes.items mid new → HasLarges (larges ++ l ∷ []) old new
larges-more larges l old mid new apart so_far put = record {
  objects = λ x among. elim (among-append larges (l ∷ []) x among) [
    | inl before ↦ put.others x.id (λ same. apart (subst (λ (n : ℕ). Among (ids_of larges) n) same (among-map (λ l. l.id) larges x before))) ∙ so_far.objects x before
    | inr last ↦ subst (λ (y : NewLarge). map.get new y.id ≡ Some y.bytes.items) (among-one l x last) put.object
  ];
  others = λ id none. put.others id (λ same. none (ids-more larges l id (inr (sym same)))) ∙ so_far.others id (λ before. none (ids-more larges l id (inl before)));
}

pub entry-none : (texts : Objects) → HasEntry None texts texts
entry-none texts = record {
  entry_is = λ e is. absurd (let no : None ≡ Some e = is in cc);
  larges_are = λ e l is among. absurd (let no : None ≡ Some e = is in cc);
  others = λ id out. refl;
}

pub odd_even : (n : ℕ) → n % 2 ≡ 1 → n % 2 ≡ 0 → ⊥
odd_even n odd even = let no : 1 ≡ 0 = sym odd ∙ even in omega (arith, no)

-- the record of an entry is none of its large binaries
pub record-apart : (e : NewEntry) → HasIds e → Among (large_ids e) e.id → ⊥
record-apart e ids among = odd_even e.id ids.odd (ids.even e.id among).0

-- the record of an entry, and then its large binaries
pub entry-put : (e : NewEntry) (old mid new : Objects) → HasIds e → HasPut e.id e.bytes.items old mid → HasLarges e.larges.items mid new → HasEntry (Some e) old new
entry-put e old mid new ids put larges = record {
  entry_is = λ x is. subst (λ (y : NewEntry). map.get new y.id ≡ Some y.bytes.items) (some_inj e x is) (larges.others e.id (record-apart e ids) ∙ put.object);
  larges_are = λ x l is among. larges.objects l (subst (λ (y : NewEntry). Among y.larges.items l) (sym (some_inj e x is)) among);
  others = λ id out. larges.others id (out e refl).1 ∙ put.others id (λ same. (out e refl).0 (sym same));
}

-- ---- new entries that are put, one after another

pub entries-first : (texts : Objects) → HasEntries [] texts texts
entries-first texts = record {
  records_are = λ e among. absurd among;
  larges_are = λ e l among. absurd among;
  others = λ id out. refl;
}

-- one more, none of whose objects is one of those before it
pub entries-more : (entries : List NewEntry) (e : NewEntry) (old mid new : Objects) → ((x : NewEntry) → Among entries x → AreApart x e)
    → ((x : NewEntry) → Among entries x → HasIds x) → HasIds e → HasEntries entries old mid → HasEntry (Some e) mid new → HasEntries (entries ++ e ∷ []) old new
entries-more entries e old mid new apart ids last_ids so_far put = record {
  records_are = λ x among. elim (among-append entries (e ∷ []) x among) [
    | inl before ↦ put.others x.id (λ y is. (
      λ same. (apart x before).records_apart (sym same ∙ ap (λ (z : NewEntry). z.id) (sym (some_inj e y is))),
      λ large. odd_even x.id (ids x before).odd (last_ids.even x.id (subst (λ (z : NewEntry). Among (large_ids z) x.id) (sym (some_inj e y is)) large)).0,
    )) ∙ so_far.records_are x before
    | inr last ↦ subst (λ (y : NewEntry). map.get new y.id ≡ Some y.bytes.items) (among-one e x last) (put.entry_is e refl)
  ];
  larges_are = λ x l among large. elim (among-append entries (e ∷ []) x among) [
    | inl before ↦ (let its : Among (large_ids x) l.id = among-map (λ (k : NewLarge). k.id) x.larges.items l large in
        put.others l.id (λ y is. (
          λ same. odd_even l.id (subst (λ (n : ℕ). n % 2 ≡ 1) (ap (λ (z : NewEntry). z.id) (some_inj e y is) ∙ same) last_ids.odd) ((ids x before).even l.id its).0,
          λ other. (apart x before).larges_apart l.id its (subst (λ (z : NewEntry). Among (large_ids z) l.id) (sym (some_inj e y is)) other),
        )) ∙ so_far.larges_are x l before large)
    | inr last ↦ put.larges_are e l refl (subst (λ (y : NewEntry). Among y.larges.items l) (sym (among-one e x last)) large)
  ];
  others = λ id out. put.others id (λ y is. subst (λ (z : NewEntry). (z.id ≢ id) × (Among (large_ids z) id → ⊥)) (some_inj e y is) (out e (among-right entries (e ∷ []) e (inl refl))))
      ∙ so_far.others id (λ x before. out x (among-left entries (e ∷ []) x before));
}

-- the directory, which is put or stays
pub directory-put : (bytes : List ℕ) (old new : Objects) → HasPut 0 bytes old new → HasDirectory (Some bytes) old new
directory-put bytes old new put = record { object = put.object; others = put.others }

pub directory-stays : (texts : Objects) → HasDirectory None texts texts
directory-stays texts = record { object = refl; others = λ id out. refl }

-- all three steps of a change
pub written : (directory : Option (List ℕ)) (entry : Option NewEntry) (gone : List ℕ) (a b c d : Objects) → HasDirectory directory a b → HasEntry entry b c → HasNone gone c d
    → ((e : NewEntry) → entry ≡ Some e → e.id ≢ 0) → ((e : NewEntry) (id : ℕ) → entry ≡ Some e → Among (large_ids e) id → id ≢ 0) → ((id : ℕ) → Among gone id → id ≢ 0) → IsApart entry gone
    → AreWritten directory entry gone a d
written directory entry gone a b c d first second third not_first not_larges not_gone apart = record {
  directory_is = third.others 0 (λ among. not_gone 0 among refl) ∙ second.others 0 (λ e is. (not_first e is, λ among. not_larges e 0 is among refl)) ∙ first.object;
  entry_is = λ e is. third.others e.id (apart.record_apart e is) ∙ second.entry_is e is;
  larges_are = λ e l is among. third.others l.id (apart.larges_apart e l.id is (among-map (λ l. l.id) e.larges.items l among)) ∙ second.larges_are e l is among;
  gone_are = third.gone;
  others = λ id ne new larges out. third.others id out ∙ second.others id (λ e is. (new e is, larges e is)) ∙ first.others id ne;
}

-- ---- how many pages

pub adds-none : (puts deletes : ℕ) (batch : Change) → puts ≡ 0 → deletes ≡ 0 → AddsPages puts deletes batch batch
adds-none puts deletes batch first second = record { more_puts = (omega (arith, first)); more_deletes = (omega (arith, second)) }

pub adds-as : (p q d e : ℕ) (old new : Change) → p ≡ q → d ≡ e → AddsPages p d old new → AddsPages q e old new
adds-as p q d e old new puts deletes adds = record { more_puts = (omega (arith, puts, adds.more_puts)); more_deletes = (omega (arith, deletes, adds.more_deletes)) }

pub adds-also : (p q d e : ℕ) (old mid new : Change) → AddsPages p d old mid → AddsPages q e mid new → AddsPages (p + q) (d + e) old new
adds-also p q d e old mid new first second = record {
  more_puts = (omega (arith, first.more_puts, second.more_puts));
  more_deletes = (omega (arith, first.more_deletes, second.more_deletes));
}

-- the same objects have as many pages
pub as-held : (old new : Held) (ids : List ℕ) → ((id : ℕ) → held new id ≡ held old id) → all_pages_held new ids ≡ all_pages_held old ids
as-held old new ids same = λ i. sum_by (λ id. length (numbers_of (same id i))) ids

pub as-over : (old new : Held) (entry : Option NewEntry) → ((id : ℕ) → held new id ≡ held old id) → over_pages new entry ≡ over_pages old entry
as-over old new None same = refl
as-over old new (Some e) same = λ i. length (numbers_of (same e.id i)) + sum_by (λ id. length (numbers_of (same id i))) (large_ids e)

one-held : (old new : Held) (id : ℕ) → held new id ≡ held old id → pages_held new id ≡ pages_held old id
one-held old new id same = ap (λ (o : Option Extent). length (numbers_of o)) same

held-more : (objects : Held) (ids : List ℕ) (id : ℕ) → all_pages_held objects (ids ++ id ∷ []) ≡ all_pages_held objects ids + pages_held objects id
held-more objects ids id = sum_by-append (pages_held objects) ids (id ∷ []) ∙ ap (λ (n : ℕ). all_pages_held objects ids + n) (omega arith)

-- the pages of one more that goes
pub gone-pages : (start objects : Held) (ids : List ℕ) (id : ℕ) (first old new : Change) → held objects id ≡ held start id → AddsPages 0 (all_pages_held start ids) first old
    → new.puts ≡ old.puts → new.deletes ≡ old.deletes ++ numbers_of (held objects id) → AddsPages 0 (all_pages_held start (ids ++ id ∷ [])) first new
gone-pages start objects ids id first old new same adds puts deletes =
    let a : length new.puts ≡ length old.puts = ap (λ (l : List (ℕ × List ℕ)). length l) puts in
    let b : length new.deletes ≡ length old.deletes + pages_held objects id = ap (λ (l : List ℕ). length l) deletes ∙ length-append old.deletes _ in
    let c : pages_held objects id ≡ pages_held start id = one-held start objects id same in
    let d : all_pages_held start (ids ++ id ∷ []) ≡ all_pages_held start ids + pages_held start id = held-more start ids id in
    record { more_puts = (omega (arith, a, adds.more_puts)); more_deletes = (omega (arith, b, c, d, adds.more_deletes)) }

-- how many pages large binaries have
abbrev pub pages_of : List NewLarge → ℕ
pages_of larges = sum_by (λ l. pages_for (length l.bytes.items)) larges

-- the pages of one more large binary
pub larges-pages : (start objects : Held) (larges : List NewLarge) (l : NewLarge) (first old new : Change) → held objects l.id ≡ held start l.id
    → AddsPages (pages_of larges) (all_pages_held start (ids_of larges)) first old → AddsPages (pages_for (length l.bytes.items)) (pages_held objects l.id) old new
    → AddsPages (pages_of (larges ++ l ∷ [])) (all_pages_held start (ids_of (larges ++ l ∷ []))) first new
larges-pages start objects larges l first old new same adds more =
    let a : pages_of (larges ++ l ∷ []) ≡ pages_of larges + pages_for (length l.bytes.items) = sum_by-append (λ l. pages_for (length l.bytes.items)) larges (l ∷ []) ∙ ap (λ (n : ℕ). pages_of larges + n) (omega arith) in
    let b : pages_held objects l.id ≡ pages_held start l.id = one-held start objects l.id same in
    let c : all_pages_held start (ids_of (larges ++ l ∷ [])) ≡ all_pages_held start (ids_of larges) + pages_held start l.id = ap (all_pages_held start) (map-append (λ l. l.id) larges (l ∷ [])) ∙ held-more start (ids_of larges) l.id in
    record { more_puts = (omega (arith, a, adds.more_puts, more.more_puts)); more_deletes = (omega (arith, b, c, adds.more_deletes, more.more_deletes)) }
