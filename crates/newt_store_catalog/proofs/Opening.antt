-- What is found where a store is opened, and what it is read as.
use Rattle.newt_laws_images.proofs.Directories.{directory-parts}
use Rattle.newt_spec_image.specs.Records.{version, IsVersion}
use Rattle.std.proofs.Common.{IsTrue, ◌≡◌, ◌≢◌, inl, inr, ℕ, ◌+◌, ◌<◌, ◌≤◌, ◌%◌, ◌==◌, Bool, true, false, cond, ◌&&◌, nat_le, nat_lt, ◌⊎◌, List, [], ◌∷◌, length, get_or, find, map as map_list, Option, Some, None, option_and_then, Result, Ok, Err, IfOk, OnOk, IsSome, is_some, refl, sym, ◌∙◌, ap, subst, arith, ⊎_elim}
use Rattle.std.specs.List.{list_all}
use Rattle.std.specs.FinMap as map
use Rattle.std.specs.Option.{option_map}
use Rattle.std.proofs.lemmas.Bool.{and_parts, and_from, eqb-true, eq-eqb, lt-ltb, ltb-true, leb-true, cases_lt}
use Rattle.std.proofs.lemmas.List.{get_or_default}
use Rattle.newt_spec_nsof.specs.Text.{AreBytes}
use Rattle.newt_host.specs.Moments.{Moment, image}
use Rattle.newt_host.specs.Outside.{Outside}
use Rattle.newt_spec_image.specs.Pages.{Pages, pages}
use Rattle.newt_spec_image.specs.Objects.{Extent, Table, Objects, IsTableOf, joined}
use Rattle.newt_pagebook.specs.Book.{Numbers}
use Rattle.newt_pagebook.specs.declared.book.BookFault.{BookFault}
use Rattle.newt_objects.specs.Held.{Held, held}
use Rattle.newt_objects.specs.Changing.{HoldsObjects}
use Rattle.newt_objects.proofs.Changing.{told_table, told_holds}
use Rattle.newt_objects.proofs.Counting.{joined_size}
use Rattle.newt_objects.proofs.Same.{texts_by}
use Rattle.newt_objects.proofs.Whole.{image_whole}
use Rattle.newt_base.specs.Names.{is_name, equal_text}
use Rattle.newt_spec_graph.specs.Graph.{every}
use Rattle.newt_spec_graph.specs.Lists.{Among, Pairs, all_apart, rises}
use Rattle.newt_spec_graph.proofs.Lists.{each-at, each-list_all, some-same, none-some}
use Rattle.newt_spec_store.specs.Store.{Store, Soup, Entry, soup_of}
use Rattle.newt_spec_store.specs.StoreOf.{LargeRow, large_object, names_larges, store_of}
use Rattle.newt_spec_store.specs.ImageStore.{store_of_image}
use Rattle.newt_spec_store.specs.OfImage.{blocks_of}
use Rattle.newt_spec_store.specs.Laid.{bare}
use Rattle.newt_spec_store.specs.Lies.{Places, directory_read, entry_read, record_read, may_be_large}
use Rattle.newt_spec_store.specs.Valid.{valid_soup, well_formed}
use Rattle.newt_laws_changes.specs.Written.{Names}
use Rattle.newt_laws_images.specs.Found.{HasGiven, ids_in, ids_named}
use Rattle.newt_laws_images.proofs.Alone.{alone, among, missing, bad-alone, entry_with}
use Rattle.newt_laws_images.proofs.Finite.{object-get}
use Rattle.newt_laws_images.proofs.Rows.{large-parts}
use Rattle.newt_laws_images.proofs.Gathering.{image-by-objects, image-no-pages, image-no-table}
use Rattle.newt_laws_images.proofs.Refused.{no-directory, has-directory, has-names, named-by-two, named-by-one, bad-record, not-given, stands-twice}
use Rattle.newt_soupdir.specs.Bare.{bare_store}
use Rattle.newt_soupdir.specs.declared.rows.Directory.{Directory}
use Rattle.newt_nsof_flat.specs.Stream.{stream_graph}
use Rattle.newt_entries.specs.Entry.{row_at, said}
use Rattle.newt_entries.specs.declared.row.EntryRow.{EntryRow}
use Rattle.newt_entries.specs.declared.row.LargeAt.{LargeAt}
use Rattle.newt_objects_commit.specs.Commit.{AreKept}
use Rattle.newt_store_catalog.specs.Calls.{IsDirectory}
use Rattle.newt_store_catalog.specs.Readable.{readable}
use Rattle.newt_store_catalog.specs.Opening.{OfObjects, HasObject, IsRoot, IsRow, Owners, objects_named, AreOwned, AreSoundTo, AreFoundTo}

pub not_true : (b : Bool) → b ≡ true → b ≡ false → ⊥
not_true b t f = cc

-- an answer is a fault
pub the-fault : {X E : Type 0} {r : Result X E} {fault other : E} → r ≡ Err fault → fault ≡ other → r ≡ Err other
the-fault {X} {E} is same = is ∙ ap (λ (f : E). let r : Result X E = Err f in r) same

-- ---- what is not read

-- an image that holds objects which are no store
pub not-readable : (now : List ℕ) (texts : Objects) → HoldsObjects now texts → ((s : Store) → store_of stream_graph (version now) (map.entries texts) (blocks_of now) ≡ Some s → ⊥) → readable now ≡ None
not-readable now texts h fails = image-by-objects stream_graph now h.live texts h.of_image h.are ∙ go (store_of stream_graph (version now) (map.entries texts) (blocks_of now)) fails
  where
    go : (r : Option Store) → ((s : Store) → r ≡ Some s → ⊥) → r ≡ None
    go None fails = refl
    go (Some s) fails = absurd (fails s refl)

-- an image whose pages are no objects
pub no-objects : (now : List ℕ) → ((live : Pages) (table : Table) → pages now ≡ Some live → IsTableOf live table → ⊥) → readable now ≡ None
no-objects now fails = go (pages now) refl
  where
    go : (p : Option Pages) → pages now ≡ p → store_of_image stream_graph now ≡ None
    go None e = image-no-pages stream_graph now e
    go (Some live) e = image-no-table stream_graph now live e (λ table is. fails live table e is)

-- ---- the objects of a host that tells bytes

module _ (told : Bool) (objects : Held) (numbers : Numbers) (unit : ℕ) (outside : Outside) (kept : AreKept told objects numbers unit outside) (tells : IsTrue told) where
  pub kept-holds : (texts : Objects) × HoldsObjects (image unit outside.now) texts
  kept-holds = told_holds told (held objects) numbers unit outside kept.are tells

  kept-by : (texts : Objects) (h : HoldsObjects (image unit outside.now) texts) → (id : ℕ) → map.get texts id ≡ option_map (joined h.live) (held objects id)
  kept-by texts h id = texts_by h.live (held objects) texts h.are (told_table told (held objects) numbers unit outside h.live kept.are tells h.of_image) id

  -- an id without object has none
  pub kept-none : (texts : Objects) → HoldsObjects (image unit outside.now) texts → (id : ℕ) → held objects id ≡ None → map.get texts id ≡ None
  kept-none texts h id none = kept-by texts h id ∙ ap (option_map (joined h.live)) none

  pub kept-some : (texts : Objects) → HoldsObjects (image unit outside.now) texts → (id : ℕ) → IsSome (held objects id) → (bytes : List ℕ) × (map.get texts id ≡ Some bytes)
  kept-some texts h id some = go (held objects id) refl some
    where
      go : (x : Option Extent) → held objects id ≡ x → IsSome x → (bytes : List ℕ) × (map.get texts id ≡ Some bytes)
      go None e s = absurd (not_true false s refl)
      go (Some x) e s = (joined h.live x, kept-by texts h id ∙ ap (option_map (joined h.live)) e)

  -- what has bytes is there
  pub kept-there : (texts : Objects) → HoldsObjects (image unit outside.now) texts → (id : ℕ) (bytes : List ℕ) → map.get texts id ≡ Some bytes → IsSome (held objects id)
  kept-there texts h id bytes at = go (held objects id) refl
    where
      go : (o : Option Extent) → held objects id ≡ o → IsSome (held objects id)
      go None e = absurd (none-some bytes (sym (kept-none texts h id e) ∙ at))
      go (Some x) e = subst (λ (o : Option Extent). IsSome o) (sym e) refl

  -- an object has as many bytes as its extent says
  pub kept-length : (texts : Objects) → HoldsObjects (image unit outside.now) texts → (id : ℕ) (bytes : List ℕ) → map.get texts id ≡ Some bytes → option_map (λ x. x.length) (held objects id) ≡ Some (length bytes)
  kept-length texts h id bytes at = go (held objects id) refl
    where
      go : (o : Option Extent) → held objects id ≡ o → option_map (λ x. x.length) o ≡ Some (length bytes)
      go None e = absurd (none-some bytes (sym (kept-none texts h id e) ∙ at))
      go (Some x) e =
          let joins : joined h.live x ≡ bytes = some-same _ _ (sym (kept-by texts h id ∙ ap (option_map (joined h.live)) e) ∙ at) in
          let size : length (joined h.live x) ≡ x.length = joined_size h.live (held objects) id x (image_whole (image unit outside.now) h.live h.of_image)
          (told_table told (held objects) numbers unit outside h.live kept.are tells h.of_image) e in
          ap (λ (n : ℕ). let o : Option ℕ = Some n in o) (sym size ∙ ap (λ (b : List ℕ). length b) joins)

  -- an object that is there with this length has so many bytes
  pub kept-long : (texts : Objects) → HoldsObjects (image unit outside.now) texts → (id size : ℕ) → option_map (λ x. x.length) (held objects id) ≡ Some size → (bytes : List ℕ) × (map.get texts id ≡ Some bytes) × (length bytes ≡ size)
  kept-long texts h id size is = go (held objects id) refl is
    where
      go : (o : Option Extent) → held objects id ≡ o → option_map (λ x. x.length) o ≡ Some size → (bytes : List ℕ) × (map.get texts id ≡ Some bytes) × (length bytes ≡ size)
      go None e k = absurd (none-some size k)
      go (Some x) e k =
          let b = kept-some texts h id (subst (λ (o : Option Extent). IsSome o) (sym e) refl) in
          (b.0, b.1, some-same _ _ (sym (kept-length texts h id b.0 b.1) ∙ is))

  -- the bytes that were read are the object's
  pub kept-read : (id : ℕ) (bytes : List ℕ) → ((live : Pages) → pages (image unit outside.now) ≡ Some live → Some bytes ≡ option_map (joined live) (held objects id))
      → (texts : Objects) → HoldsObjects (image unit outside.now) texts → map.get texts id ≡ Some bytes
  kept-read id bytes read texts h = kept-by texts h id ∙ sym (read h.live h.of_image)

-- ---- a record among objects

every-none : {X Y : Type 0} (f : X → Option Y) (xs : List X) (ys : List Y) (x : X) → every (map_list f xs) ≡ Some ys → Among xs x → f x ≡ None → ⊥
every-none f [] ys x e m lacks = m
every-none {X} {Y} f (z ∷ xs) ys x e m lacks = go (λ zs k n. every-none f xs zs x k n lacks) (f z) refl (every (map_list f xs)) refl e m
  where
    go : ((zs : List Y) → every (map_list f xs) ≡ Some zs → Among xs x → ⊥) → (o : Option Y) → f z ≡ o → (os : Option (List Y)) → every (map_list f xs) ≡ os → every (o ∷ map_list f xs) ≡ Some ys → Among (z ∷ xs) x → ⊥
    go more None is os rest k m = none-some ys k
    go more (Some y) is None rest k m = none-some ys (sym (ap (option_map (λ zs. y ∷ zs)) rest) ∙ k)
    go more (Some y) is (Some zs) rest k (inl same) = none-some y (sym lacks ∙ ap f (sym same) ∙ is)
    go more (Some y) is (Some zs) rest k (inr n) = more zs rest n

every-some : {X Y : Type 0} (f : X → Option Y) (xs : List X) → ((x : X) → Among xs x → (y : Y) × (f x ≡ Some y)) → (ys : List Y) × (every (map_list f xs) ≡ Some ys)
every-some f [] each = ([], refl)
every-some f (x ∷ xs) each =
    let first = each x (inl refl) in
    let rest = every-some f xs (λ z m. each z (inr m)) in
    (first.0 ∷ rest.0, ap (λ o. every (o ∷ map_list f xs)) first.1 ∙ ap (option_map (λ zs. first.0 ∷ zs)) rest.1)

among-rows : (rows : List LargeAt) (l : LargeAt) → Among rows l → Among (map_list row_at rows) (row_at l)
among-rows [] l m = m
among-rows (x ∷ rows) l (inl same) = inl (ap row_at same)
among-rows (x ∷ rows) l (inr m) = inr (among-rows rows l m)

rows-among : (rows : List LargeAt) (z : LargeRow) → Among (map_list row_at rows) z → (l : LargeAt) × Among rows l × (row_at l ≡ z)
rows-among [] z m = absurd m
rows-among (x ∷ rows) z (inl same) = (x, inl refl, same)
rows-among (x ∷ rows) z (inr m) = let r = rows-among rows z m in (r.0, inr r.1, r.2)

-- an object that rows name is that of one
pub object-among : (rows : List LargeAt) (o : ℕ) → Among (objects_named rows) o → (l : LargeAt) × Among rows l × (l.object ≡ o)
object-among [] o m = absurd m
object-among (x ∷ rows) o (inl same) = (x, inl refl, same)
object-among (x ∷ rows) o (inr m) = let r = object-among rows o m in (r.0, inr r.1, r.2)

pub among-object : (rows : List LargeAt) (l : LargeAt) → Among rows l → Among (objects_named rows) l.object
among-object [] l m = m
among-object (x ∷ rows) l (inl same) = inl (ap (λ (y : LargeAt). y.object) same)
among-object (x ∷ rows) l (inr m) = inr (among-object rows l m)

objects-at : (rows : List LargeAt) → map_list (λ (l : LargeRow). l.1) (map_list row_at rows) ≡ objects_named rows
objects-at [] = refl
objects-at (x ∷ rows) = ap (λ (l : List ℕ). x.object ∷ l) (objects-at rows)

-- the ids that the bytes of a record name are those of its rows
pub names-are : (bytes : List ℕ) (row : EntryRow) → record_read stream_graph bytes ≡ Some (said row) → ids_named bytes ≡ objects_named row.larges
names-are bytes row h = ap ids_in (alone stream_graph bytes (said row).0 (said row).1 h).is_row ∙ objects-at row.larges

-- the objects of a record's large binaries have even ids above 0
pub even-rows : (bytes : List ℕ) (row : EntryRow) → record_read stream_graph bytes ≡ Some (said row) → (o : ℕ) → Among (objects_named row.larges) o → (o % 2 ≡ 0) × (0 < o)
even-rows bytes row h o m =
    let good = (alone stream_graph bytes (said row).0 (said row).1 h).is_good in
    let tests = and_parts (names_larges (said row).0 (said row).1 && list_all may_be_large (said row).0.larges) _ good in
    let all : list_all may_be_large (map_list row_at row.larges) ≡ true = (and_parts (names_larges (said row).0 (said row).1) (list_all may_be_large (said row).0.larges) tests.0).1 in
    let l = object-among row.larges o m in
    let may : may_be_large (row_at l.0) ≡ true = each-at (λ x. may_be_large x ≡ true) (map_list row_at row.larges) (row_at l.0) (each-list_all may_be_large (map_list row_at row.larges) all) (among-rows row.larges l.0 l.1) in
    let p = and_parts (l.0.object % 2 == 0) (nat_lt 0 l.0.object) may in
    subst (λ (q : ℕ). (q % 2 ≡ 0) × (0 < q)) l.2 (eqb-true (l.0.object % 2) 0 p.0, ltb-true 0 l.0.object p.1)

pub even-by : (bytes : List ℕ) (r : Result EntryRow BookFault) → IfOk r (λ row. record_read stream_graph bytes ≡ Some (said row)) → IfOk r (λ row. (o : ℕ) → Among (objects_named row.larges) o → (o % 2 ≡ 0) × (0 < o))
even-by bytes (Ok row) h = even-rows bytes row h
even-by bytes (Err e) h = tt

-- the bytes of the rows' objects, none where one is missing
abbrev pub bytes_of : Objects → EntryRow → Option (List (List ℕ))
bytes_of texts row = every (map_list (large_object (map.entries texts)) (map_list row_at row.larges))

-- a record is read among objects as its entry, or not at all
pub read-among : (texts : Objects) (bytes : List ℕ) (row : EntryRow) → record_read stream_graph bytes ≡ Some (said row)
    → (entry_read stream_graph texts bytes ≡ None) ⊎ ((e : Entry) × (entry_read stream_graph texts bytes ≡ Some (row.soup, e)) × (e.uid ≡ row.uid))
read-among texts bytes row h = go (bytes_of texts row) refl
  where
    go : (o : Option (List (List ℕ))) → bytes_of texts row ≡ o
        → (entry_read stream_graph texts bytes ≡ None) ⊎ ((e : Entry) × (entry_read stream_graph texts bytes ≡ Some (row.soup, e)) × (e.uid ≡ row.uid))
    go None e = inl (missing stream_graph texts bytes (said row).0 (said row).1 h e)
    go (Some bs) e = inr ((entry_with (said row).0 (said row).1 bs).1, among stream_graph texts bytes (said row).0 (said row).1 bs h e, refl)

-- where each object is there with its row's length, the record is read
pub read-whole : (texts : Objects) (bytes : List ℕ) (row : EntryRow) → record_read stream_graph bytes ≡ Some (said row) → ((o : ℕ) → Among (objects_named row.larges) o → (o % 2 ≡ 0) × (0 < o))
    → ((l : LargeAt) → Among row.larges l → (b : List ℕ) × (map.get texts l.object ≡ Some b) × (length b ≡ l.length)) → (e : Entry) × (entry_read stream_graph texts bytes ≡ Some (row.soup, e)) × (e.uid ≡ row.uid)
read-whole texts bytes row h even there =
    let bs = every-some (large_object (map.entries texts)) (map_list row_at row.larges) (λ z m.
    let r = rows-among row.larges z m in
    let b = there r.0 r.1 in
    let low = even r.0.object (among-object row.larges r.0 r.1) in
    (b.0, ap (large_object (map.entries texts)) (sym r.2) ∙ is_there r.0 b.0 b.1 b.2 low.0 low.1)) in
    ((entry_with (said row).0 (said row).1 bs.0).1, among stream_graph texts bytes (said row).0 (said row).1 bs.0 h bs.1, refl)
  where
    is_there : (l : LargeAt) (b : List ℕ) → map.get texts l.object ≡ Some b → length b ≡ l.length → l.object % 2 ≡ 0 → 0 < l.object → large_object (map.entries texts) (row_at l) ≡ Some b
    is_there l b at size even low =
        ap (λ o. option_and_then (λ x. cond ((l.object % 2 == 0) && nat_lt 0 l.object && (length x == l.length)) (Some x) None) o) (object-get texts l.object ∙ at)
        ∙ ap {A = Bool} {B = Option (List ℕ)} (λ t. cond t (Some b) None) (and_from _ _ (and_from _ _ (eq-eqb _ _ even) (lt-ltb _ _ low)) (eq-eqb _ _ size))

-- ---- the directory

pub now-formed : (version : ℕ) (bytes : List ℕ) (d : Store) → directory_read stream_graph version bytes ≡ Some d → IsTrue (well_formed d)
now-formed version bytes d e = (directory-parts stream_graph version bytes d e).2

module _ (told : Bool) (objects : Held) (numbers : Numbers) (unit : ℕ) (outside : Outside) (kept : AreKept told objects numbers unit outside) (tells : IsTrue told) where
  abbrev now : List ℕ
  now = image unit outside.now

  abbrev the : (texts : Objects) × HoldsObjects now texts
  the = kept-holds told objects numbers unit outside kept tells

  -- the directory is not there
  pub root-missing : held objects 0 ≡ None → readable now ≡ None
  root-missing none = not-readable now the.0 the.1 (λ s is. no-directory stream_graph (version now) the.0 (blocks_of now) s is (kept-none told objects numbers unit outside kept tells the.0 the.1 0 none))

  -- the directory cannot be read
  pub root-bad : (bytes : List ℕ) → OfObjects told now (HasObject 0 bytes) → directory_read stream_graph (version now) bytes ≡ None → readable now ≡ None
  root-bad bytes has bad = not-readable now the.0 the.1 (λ s is.
      let r = has-directory stream_graph (version now) the.0 (blocks_of now) s is in
      let same : r.0 ≡ bytes = some-same _ _ (sym r.1 ∙ has tells the.0 the.1) in
      let read : directory_read stream_graph (version now) bytes ≡ Some (bare s) = ap (directory_read stream_graph (version now)) (sym same) ∙ r.2 in
      none-some (bare s) (sym bad ∙ read))

  -- a record that cannot be read
  pub record-bad : (id : ℕ) (bytes : List ℕ) → OfObjects told now (HasObject id bytes) → id % 2 ≡ 1 → record_read stream_graph bytes ≡ None → readable now ≡ None
  record-bad id bytes has odd bad = not-readable now the.0 the.1 (λ s is.
      bad-record stream_graph (version now) the.0 (blocks_of now) s is id bytes (has tells the.0 the.1) odd (bad-alone stream_graph the.0 bytes bad))

  module _ (directory : Directory) (root : OfObjects told now (IsRoot (version now) directory)) (id : ℕ) (odd : id % 2 ≡ 1) (row : EntryRow) (is_row : OfObjects told now (IsRow id row)) where
    abbrev the_row : IsRow id row the.0
    the_row = is_row tells the.0 the.1

    -- the record is read, or there is no store
    read-or-not : (s : Store) → store_of stream_graph (version now) (map.entries the.0) (blocks_of now) ≡ Some s → (e : Entry) × (entry_read stream_graph the.0 the_row.bytes ≡ Some (row.soup, e)) × (e.uid ≡ row.uid)
    read-or-not s is = ⊎_elim
        (λ (none : entry_read stream_graph the.0 the_row.bytes ≡ None). absurd (bad-record stream_graph (version now) the.0 (blocks_of now) s is id the_row.bytes the_row.object odd none))
        (λ (read : (e : Entry) × (entry_read stream_graph the.0 the_row.bytes ≡ Some (row.soup, e)) × (e.uid ≡ row.uid)). read)
        (read-among the.0 the_row.bytes row the_row.read)

    -- a record of an entry that was not given its id
    pub record-not-given : (HasGiven (bare_store directory) row.soup row.uid → ⊥) → readable now ≡ None
    record-not-given none = not-readable now the.0 the.1 (λ s is.
        let d = root tells the.0 the.1 in
        let r = read-or-not s is in
        not-given stream_graph (version now) the.0 (blocks_of now) s is id d.bytes the_row.bytes (bare_store directory) row.soup r.0 d.object d.read the_row.object odd r.1
        (λ given. none (subst (λ (u : ℕ). HasGiven (bare_store directory) row.soup u) r.2 given)))

    -- a large binary that is not there with its length
    pub record-missing : (l : LargeAt) → Among row.larges l → (option_map (λ x. x.length) (held objects l.object) ≡ Some l.length → ⊥) → readable now ≡ None
    record-missing l m none = not-readable now the.0 the.1 (λ s is. bad-record stream_graph (version now) the.0 (blocks_of now) s is id the_row.bytes the_row.object odd (go (bytes_of the.0 row) refl))
      where
        not-there : (o : Option (List ℕ)) → large_object (map.entries the.0) (row_at l) ≡ o → o ≡ None
        not-there None e = refl
        not-there (Some b) e =
            let p = large-parts (map.entries the.0) (row_at l) b e in
            absurd (none (kept-length told objects numbers unit outside kept tells the.0 the.1 l.object b (sym (object-get the.0 l.object) ∙ p.2) ∙ ap (λ (n : ℕ). let o : Option ℕ = Some n in o) p.3))

        go : (o : Option (List (List ℕ))) → bytes_of the.0 row ≡ o → entry_read stream_graph the.0 the_row.bytes ≡ None
        go None e = missing stream_graph the.0 the_row.bytes (said row).0 (said row).1 the_row.read e
        go (Some bs) e = absurd (every-none (large_object (map.entries the.0)) (map_list row_at row.larges) bs (row_at l) e (among-rows row.larges l m) (not-there (large_object (map.entries the.0) (row_at l)) refl))

    module _ (last : ℕ) (place : Places) (names : Names) (owner : Owners) (sound : AreSoundTo last (held objects) place names owner)
        (found : OfObjects told now (AreFoundTo last place names (bare_store directory))) (later : last + 1 ≤ id) where
      -- a second record of one entry
      pub record-twice : (other : ℕ) → place row.soup row.uid ≡ Some other → readable now ≡ None
      record-twice other at = not-readable now the.0 the.1 (λ s is.
          let r = read-or-not s is in
          let f = (found tells the.0 the.1).places row.soup row.uid other at in
          let below : other < last + 1 = sound.below row.soup row.uid other at in
          stands-twice stream_graph (version now) the.0 (blocks_of now) s is id other the_row.bytes f.0 row.soup r.0 f.1 the_row.object f.2 odd f.3 (λ same. omega (arith, same, later, below)) r.1 f.4.read (r.2 ∙ sym f.5))

      -- an object that another record names, or this one twice
      pub record-owned : AreOwned (objects_named row.larges) owner → readable now ≡ None
      record-owned owned = not-readable now the.0 the.1 (λ s is.
          let are : ids_named the_row.bytes ≡ objects_named row.larges = names-are the_row.bytes row the_row.read in
          owned (λ o m. free s is are o m (owner o) refl)
          (subst (λ (ids : List ℕ). Pairs (λ a b. a ≢ b) ids) are (named-by-one stream_graph (version now) the.0 (blocks_of now) s is id the_row.bytes the_row.object odd)))
        where
          free : (s : Store) → store_of stream_graph (version now) (map.entries the.0) (blocks_of now) ≡ Some s → ids_named the_row.bytes ≡ objects_named row.larges
              → (o : ℕ) → Among (objects_named row.larges) o → (r : Option ℕ) → owner o ≡ r → owner o ≡ None
          free s is are o m None e = e
          free s is are o m (Some r) e =
              let names_it : Among (names r) o = sound.owns r o e in
              let p = sound.placed r o names_it in
              let below : r < last + 1 = sound.below p.0 p.1 r p.2 in
              let f = (found tells the.0 the.1).places p.0 p.1 r p.2 in
              let k = (found tells the.0 the.1).records r f.0 f.2 f.3 below in
              absurd (named-by-two stream_graph (version now) the.0 (blocks_of now) s is id r o the_row.bytes f.0 the_row.object f.2 odd f.3 (λ same. omega (arith, same, later, below))
              (subst (λ (ids : List ℕ). Among ids o) (sym are) m) (subst (λ (ids : List ℕ). Among ids o) k.4 names_it))

  -- an object with an even id that no record names
  pub large-not-named : (last : ℕ) (place : Places) (names : Names) (owner : Owners) (d : Store) → AreSoundTo last (held objects) place names owner → OfObjects told now (AreFoundTo last place names d)
      → ((q : ℕ) → last + 1 ≤ q → held objects q ≡ None) → (id : ℕ) → IsSome (held objects id) → (id ≡ 0 → ⊥) → id % 2 ≡ 0 → owner id ≡ None → readable now ≡ None
  large-not-named last place names owner d sound found none id there n even free = not-readable now the.0 the.1 (λ s is.
      let b = kept-some told objects numbers unit outside kept tells the.0 the.1 id there in
      let r = has-names stream_graph (version now) the.0 (blocks_of now) s is id b.0 b.1 n even in
      let k = (found tells the.0 the.1).records r.0 r.1 r.2 r.3 (below r.0 r.1 r.2 (cases_lt r.0 (last + 1))) in
      none-some r.0 (sym free ∙ sound.owned r.0 id (subst (λ (ids : List ℕ). Among ids id) (sym k.4) r.4)))
    where
      below : (r : ℕ) (bytes : List ℕ) → map.get the.0 r ≡ Some bytes → (r < last + 1) ⊎ (last + 1 ≤ r) → r < last + 1
      below r bytes at (inl low) = low
      below r bytes at (inr high) = absurd (none-some bytes (sym (kept-none told objects numbers unit outside kept tells the.0 the.1 r (none r high)) ∙ at))

-- ---- a soup of the directory has given an id

find-among : (sig : ℕ) (ps : List Soup) (p : Soup) → find (λ p. p.sig == sig) ps ≡ Some p → Among ps p × (p.sig ≡ sig)
find-among sig [] p e = absurd (none-some p e)
find-among sig (q ∷ ps) p e = go (λ k. find-among sig ps p k) (q.sig == sig) refl e
  where
    go : (find (λ p. p.sig == sig) ps ≡ Some p → Among ps p × (p.sig ≡ sig)) → (b : Bool) → (q.sig == sig) ≡ b → cond b (Some q) (find (λ p. p.sig == sig) ps) ≡ Some p → Among (q ∷ ps) p × (p.sig ≡ sig)
    go more true t k = let same : q ≡ p = some-same q p k in (inl same, ap (λ (p : Soup). p.sig) (sym same) ∙ eqb-true q.sig sig t)
    go more false t k = let r = more k in (inr r.0, r.1)

find-none : (sig : ℕ) (ps : List Soup) (p : Soup) → find (λ p. p.sig == sig) ps ≡ None → Among ps p → p.sig ≡ sig → ⊥
find-none sig [] p e a of = a
find-none sig (q ∷ ps) p e a of = go (λ k rest. find-none sig ps p k rest of) (q.sig == sig) refl e a
  where
    go : (find (λ p. p.sig == sig) ps ≡ None → Among ps p → ⊥) → (b : Bool) → (q.sig == sig) ≡ b → cond b (Some q) (find (λ p. p.sig == sig) ps) ≡ None → Among (q ∷ ps) p → ⊥
    go more true t k a = none-some q (sym k)
    go more false t k (inl same) = not_true (q.sig == sig) (eq-eqb q.sig sig (ap (λ (p : Soup). p.sig) same ∙ of)) t
    go more false t k (inr rest) = more k rest

pub given : (d : Store) (sig uid : ℕ) (p : Soup) → soup_of sig d ≡ Some p → uid < p.next_uid → HasGiven d sig uid
given d sig uid p at low = let r = find-among sig d.soups p at in record { soup = p; is_soup = r.0; of_sig = r.1; below = low }

pub given-none : (d : Store) (sig uid : ℕ) → soup_of sig d ≡ None → HasGiven d sig uid → ⊥
given-none d sig uid at h = find-none sig d.soups h.soup at h.is_soup h.of_sig

rises_on : (low high : ℕ) (q : Soup) (ps : List Soup) → rises low high (map_list (λ (p : Soup). p.sig) (q ∷ ps)) ≡ true → (low ≤ q.sig) × (rises (q.sig + 1) high (map_list (λ (p : Soup). p.sig) ps) ≡ true)
rises_on low high q ps r =
    let all = and_parts (nat_le low q.sig && nat_lt q.sig high) (rises (q.sig + 1) high (map_list (λ (p : Soup). p.sig) ps)) r in
    (leb-true low q.sig (and_parts (nat_le low q.sig) (nat_lt q.sig high) all.0).0, all.1)

rising : (low high : ℕ) (ps : List Soup) (p : Soup) → rises low high (map_list (λ (p : Soup). p.sig) ps) ≡ true → Among ps p → low ≤ p.sig
rising low high [] p r a = absurd a
rising low high (q ∷ ps) p r (inl same) = subst (λ (p : Soup). low ≤ p.sig) same (rises_on low high q ps r).0
rising low high (q ∷ ps) p r (inr rest) =
    let on = rises_on low high q ps r in
    let first : low ≤ q.sig = on.0 in
    let more : q.sig + 1 ≤ p.sig = rising (q.sig + 1) high ps p on.1 rest in
    omega (arith, more, first)

find-same : (low high sig : ℕ) (ps : List Soup) (p q : Soup) → rises low high (map_list (λ (p : Soup). p.sig) ps) ≡ true → find (λ p. p.sig == sig) ps ≡ Some p → Among ps q → q.sig ≡ sig → q ≡ p
find-same low high sig [] p q r e a of = absurd a
find-same low high sig (h ∷ ps) p q r e a of = go (λ k rest. find-same (h.sig + 1) high sig ps p q (rises_on low high h ps r).1 k rest of) (h.sig == sig) refl e a
  where
    go : (find (λ p. p.sig == sig) ps ≡ Some p → Among ps q → q ≡ p) → (b : Bool) → (h.sig == sig) ≡ b → cond b (Some h) (find (λ p. p.sig == sig) ps) ≡ Some p → Among (h ∷ ps) q → q ≡ p
    go more true t k (inl same) = sym same ∙ some-same h p k
    go more true t k (inr rest) = absurd (let above : h.sig + 1 ≤ q.sig = rising (h.sig + 1) high ps q (rises_on low high h ps r).1 rest in let at : h.sig ≡ sig = eqb-true h.sig sig t in omega (arith, above, at, of))
    go more false t k (inl same) = absurd (not_true (h.sig == sig) (eq-eqb h.sig sig (ap (λ (p : Soup). p.sig) same ∙ of)) t)
    go more false t k (inr rest) = more k rest

pub given-below : (d : Store) (sig uid : ℕ) (p : Soup) → IsTrue (well_formed d) → soup_of sig d ≡ Some p → HasGiven d sig uid → uid < p.next_uid
given-below d sig uid p formed at h =
    let same : h.soup ≡ p = find-same 0 d.next_soup sig d.soups p h.soup (formed-rises d formed) at h.is_soup h.of_sig in
    subst (λ (q : Soup). uid < q.next_uid) same h.below where
      formed-rises : (d : Store) → IsTrue (well_formed d) → rises 0 d.next_soup (map_list (λ (p : Soup). p.sig) d.soups) ≡ true
      formed-rises d formed =
          let a = and_parts (is_name d.name && nat_le d.sig 536_870_911 && nat_le d.next_soup 65_535 && nat_le (length d.soups) 250 && rises 0 d.next_soup (map_list (λ (p : Soup). p.sig) d.soups) && all_apart equal_text (map_list (λ (p : Soup). p.name) d.soups))
          (list_all valid_soup d.soups) formed in
          let b = and_parts (is_name d.name && nat_le d.sig 536_870_911 && nat_le d.next_soup 65_535 && nat_le (length d.soups) 250 && rises 0 d.next_soup (map_list (λ (p : Soup). p.sig) d.soups)) (all_apart equal_text (map_list (λ (p : Soup). p.name) d.soups)) a.0 in
          (and_parts (is_name d.name && nat_le d.sig 536_870_911 && nat_le d.next_soup 65_535 && nat_le (length d.soups) 250) (rises 0 d.next_soup (map_list (λ (p : Soup). p.sig) d.soups)) b.0).1

pub mapped-none : {X Y : Type 0} (f : X → Y) (o : Option X) → option_map f o ≡ None → o ≡ None
mapped-none f None e = refl
mapped-none f (Some x) e = absurd (none-some (f x) (sym e))

pub are-bytes : (bytes : List ℕ) → ((k : ℕ) → get_or bytes k 0 < 256) → AreBytes bytes
are-bytes bytes each = λ k d low. let P : ℕ → Type 0 = λ b. b < 256 in subst P (get_or_default bytes k 0 d low) (each k)

pub is-none : {X : Type 0} (o : Option X) → is_some o ≡ false → o ≡ None
is-none None e = refl
is-none (Some x) e = absurd (not_true true refl e)

-- a version is one of two
pub either-version : (n : ℕ) → IsVersion n → (n ≡ 1) ⊎ (n ≡ 2)
either-version n is = ⊎_elim (λ (lt : n < 2). inl (omega (arith, lt, is.0))) (λ (ge : 2 ≤ n). inr (omega (arith, ge, is.1))) (cases_lt n 2)

-- what is read as a directory, in the form of the image's version, is the root, if the bytes are those of object 0
pub directory-by : (told : Bool) (read_from bytes text : List ℕ) (number : ℕ) (r : Result Directory BookFault) → OfObjects told read_from (HasObject 0 bytes) → text ≡ bytes → (IsTrue told → number ≡ version read_from)
    → IfOk r (λ d. directory_read stream_graph number text ≡ Some (bare_store d)) → OnOk r (AreBytes text) → IfOk r (IsDirectory told read_from)
directory-by told read_from bytes text number (Ok d) has same is read are = record {
  root = λ tells texts h. record {
    bytes = text;
    object = has tells texts h ∙ ap (λ (b : List ℕ). let o : Option (List ℕ) = Some b in o) (sym same);
    read = ap (λ (n : ℕ). directory_read stream_graph n text) (sym (is tells)) ∙ read;
    are_bytes = are;
  };
  formed = now-formed number text (bare_store d) read;
}
directory-by told read_from bytes text number (Err e) has same is read are = tt

-- and what is read as a record is that of an object
pub row-by : (told : Bool) (read_from bytes text : List ℕ) (id : ℕ) (r : Result EntryRow BookFault) → OfObjects told read_from (HasObject id bytes) → text ≡ bytes → IfOk r (λ row. record_read stream_graph text ≡ Some (said row)) → OnOk r (AreBytes text)
    → IfOk r (λ row. OfObjects told read_from (IsRow id row))
row-by told read_from bytes text id (Ok row) has same read are = λ tells texts h. record { bytes = text; object = has tells texts h ∙ ap (λ (b : List ℕ). let o : Option (List ℕ) = Some b in o) (sym same); read = read; are_bytes = are }
row-by told read_from bytes text id (Err e) has same read are = tt

pub some-of : {X : Type 0} (o : Option X) → is_some o ≡ true → (x : X) × (o ≡ Some x)
some-of None e = absurd (not_true false e refl)
some-of (Some x) e = (x, refl)

pub same-image : (unit unit' : ℕ) (old new : Moment) → unit' ≡ unit → new ≡ old → image unit' new ≡ image unit old
same-image unit unit' old new place now = ap (λ (u : ℕ). image u new) place ∙ ap (λ (m : Moment). image unit m) now

-- an image without pages
pub no-pages : (now : List ℕ) → pages now ≡ None → readable now ≡ None
no-pages now none = image-no-pages stream_graph now none
