-- A backup is read back as its store, and what is not read is no backup.
use Rattle.std.proofs.Common.{◌≡◌, refl, sym, ◌∙◌, ap, subst, ℕ, ◌+◌, ◌-◌, ◌<◌, ◌≤◌, Bool, true, List, [], ◌∷◌, ◌++◌, map, length, take, drop, All, Option, Some, None, Vec, Global, arith, append_assoc, nat_le}
use Rattle.std.specs.Prelude.{option_map, ◌&&◌, IfSome}
use Rattle.std.specs.List.{list_all, sum_by}
use Rattle.std.proofs.lemmas.Bool.{and_parts}
use Rattle.std.proofs.lemmas.List.{map-append}
use Rattle.std.proofs.lemmas.List.Elements.{All-nil, All-cons, All-tail}
use Rattle.std.proofs.lemmas.List.Sums.{sum_by-cons}
use Rattle.newt_graph.specs.Graph.{RawGraph, IsGraph}
use Rattle.newt_spec_image.specs.Objects.{pages_for}
use Rattle.newt_spec_nsof.specs.Flat.{flat}
use Rattle.newt_spec_graph.specs.Graph.{every}
use Rattle.newt_spec_graph.specs.Lists.{Each, all_apart, rises}
use Rattle.newt_base.specs.Names.{equal_text}
use Rattle.newt_entries.specs.declared.full.FullEntry.{FullEntry}
use Rattle.newt_nsof_flat.specs.Stream.{stream_graph}
use Rattle.newt_nsof_flat.proofs.Streams.{reads_graphs}
use Rattle.newt_soupdir.specs.declared.rows.Directory.{Directory}
use Rattle.newt_soupdir.specs.declared.rows.SoupRow.{SoupRow}
use Rattle.newt_soupdir.specs.Bare.{bare_store, bare_soup as row_soup}
use Rattle.newt_spec_store.specs.Store.{Entry, Soup, Store}
use Rattle.newt_spec_store.specs.Cost.{directory_bytes, entry_pages, soup_pages, cost}
use Rattle.newt_spec_store.specs.Image.{all_entries}
use Rattle.newt_spec_store.specs.Laid.{bare, bare_soup as emptied}
use Rattle.newt_spec_store.specs.Lies.{directory_read}
use Rattle.newt_spec_store.specs.Valid.{valid_soup, well_formed, fits, valid}
use Rattle.newt_laws_images.proofs.Directories.{directory-parts}
use Rattle.newt_laws_images.proofs.Stores.{is-store, store-is}
use Rattle.newt_laws_images.proofs.Totals.{total, sum-total}
use Rattle.newt_backup.specs.Backup.{fulls, backup, IsKept, Unbacked}
use Rattle.newt_backup.specs.Texts.{texts_from, full_read, contents_read, with_entries}
use Rattle.newt_backup.specs.Together.{others, with_own, left_over, together}
use Rattle.newt_backup.specs.Checks.{are_of}
use Rattle.newt_backup.specs.Contents.{store_in, IsSound, AreKept}
use Rattle.newt_entries.specs.Full.{as_entry, told}
use Rattle.newt_backup.proofs.Bounds.{store-total, kept-short}
use Rattle.newt_backup.proofs.Contents.{directory-same, entries-same, own-length}
use Rattle.newt_backup.proofs.Kept.{kept-formed, valid-most}
use Rattle.newt_backup.proofs.One.{fulls-read, directory-kept}
use Rattle.newt_backup.proofs.Passing.{soups-pass, soups-passed}
use Rattle.newt_backup.proofs.Texts.{packed-read}
use Rattle.newt_backup.proofs.Together.{store-together, none-left}

some-one : {X : Type 0} (x y : X) → Some x ≡ Some y → x ≡ y
some-one x y e = cc

none-some : {X : Type 0} (x : X) → None ≡ Some x → ⊥
none-some x e = cc

-- ---- texts

pub same-graph : (g h : RawGraph) → IsGraph g → IsGraph h → flat g ≡ flat h → h ≡ g
same-graph g h a b e = some-one h g (sym (reads_graphs.back h b) ∙ ap (λ t. stream_graph t) (sym e) ∙ reads_graphs.back g a)

-- ---- the entries, one after another

pub fulls-more : (out new : List FullEntry) (e : FullEntry) (x : List ℕ) (xs : List (List ℕ)) (all : Option (List (ℕ × Entry)))
    → option_map (λ ys. map told out ++ ys) (every (map full_read (x ∷ xs))) ≡ all → full_read x ≡ Some (told e) → new ≡ out ++ e ∷ []
    → option_map (λ ys. map told new ++ ys) (every (map full_read xs)) ≡ all
fulls-more out new e x xs all h r n =
    ap (λ l. option_map (λ ys. map told l ++ ys) (every (map full_read xs))) n ∙ go (every (map full_read xs))
    ∙ ap (λ o. option_map (λ ys. map told out ++ ys) (every (o ∷ map full_read xs))) (sym r) ∙ h
  where
    go : (o : Option (List (ℕ × Entry))) → option_map (λ ys. map told (out ++ e ∷ []) ++ ys) o ≡ option_map (λ ys. map told out ++ ys) (option_map (λ l. told e ∷ l) o)
    go None = refl
    go (Some l) = ap (λ k. Some (k ++ l)) (map-append told out (e ∷ [])) ∙ ap (λ k. Some k) (append_assoc (map told out) (told e ∷ []) l)

-- ---- what is a store

-- the directory's test, with entries
formed-with : (d : Store) (xs : List (ℕ × Entry)) → well_formed d ≡ true → list_all valid_soup (with_own d.soups xs) ≡ true → well_formed (together d xs) ≡ true
formed-with d xs w v =
    let is = is-store d w in
    store-is (together d xs) (record {
      named = is.named;
      sig_fits = is.sig_fits;
      next = is.next;
      count = omega (arith, own-length d.soups xs, is.count);
      sigs = subst (λ ns. rises 0 d.next_soup ns ≡ true) (sym (sigs d.soups xs)) is.sigs;
      names_apart = subst (λ ns. all_apart equal_text ns ≡ true) (sym (names d.soups xs)) is.names_apart;
      soups_fit = v;
    })
  where
    sigs : (ps : List Soup) (xs : List (ℕ × Entry)) → map (λ (p : Soup). p.sig) (with_own ps xs) ≡ map (λ (p : Soup). p.sig) ps
    sigs [] xs = refl
    sigs (p ∷ ps) xs = ap (λ l. p.sig ∷ l) (sigs ps (others p.sig xs))

    names : (ps : List Soup) (xs : List (ℕ × Entry)) → map (λ (p : Soup). p.name) (with_own ps xs) ≡ map (λ (p : Soup). p.name) ps
    names [] xs = refl
    names (p ∷ ps) xs = ap (λ l. p.name ∷ l) (names ps (others p.sig xs))

told-total : (es : List FullEntry) → total (λ (y : ℕ × Entry). entry_pages y.1) (map told es) ≡ sum_by (λ (e : FullEntry). entry_pages (as_entry e)) es
unfolding total
told-total [] = refl
told-total (e ∷ es) = ap (λ n. entry_pages (as_entry e) + n) (told-total es) ∙ sym (sum_by-cons (λ (e : FullEntry). entry_pages (as_entry e)) e es)

-- what the store costs
pub cost-is : (d : Directory) (es : List FullEntry) → left_over (bare_store d).soups (map told es) ≡ []
    → cost (store_in d es) ≡ pages_for (length (directory_bytes (bare_store d))) + sum_by (λ (e : FullEntry). entry_pages (as_entry e)) es
cost-is d es h =
    ap (λ b. pages_for (length b) + sum_by soup_pages (store_in d es).soups) (directory-same (bare_store d) (map told es))
    ∙ ap (λ n. pages_for (length (directory_bytes (bare_store d))) + n) (sum-total soup_pages (store_in d es).soups ∙ sym (store-total (store_in d es).soups)
    ∙ ap (λ xs. total (λ (y : ℕ × Entry). entry_pages y.1) xs) (entries-same d es h) ∙ told-total es)

sound-each : (es : List FullEntry) → All IsSound es → Each (λ (x : ℕ × Entry). IsGraph x.1.graph × (x.1.time < 4294967296)) (map told es)
sound-each [] h = tt
sound-each (e ∷ es) h = (h 0 e (omega arith), sound-each es (All-tail IsSound e es h))

infos-with : (ps : List Soup) (xs : List (ℕ × Entry)) → Each (λ (p : Soup). IfSome p.info IsGraph) ps → Each (λ (p : Soup). IfSome p.info IsGraph) (with_own ps xs)
infos-with [] xs h = tt
infos-with (p ∷ ps) xs h = (h.0, infos-with ps (others p.sig xs) h.1)

-- a directory and entries that pass are a store
pub kept-yes : (d : Directory) (es : List FullEntry) → well_formed (bare_store d) ≡ true → Each (λ (p : Soup). IfSome p.info IsGraph) (bare_store d).soups → All IsSound es → are_of (bare_store d).soups (map told es) ≡ true
    → nat_le (pages_for (length (directory_bytes (bare_store d))) + sum_by (λ (e : FullEntry). entry_pages (as_entry e)) es) 15_978 ≡ true → AreKept d es
kept-yes d es w infos sound a f =
    let pass = soups-pass (bare_store d).soups (map told es) (is-store (bare_store d) w).soups_fit a in
    record {
      kept = record {
        valid = both (well_formed (store_in d es)) (fits 4099 (store_in d es)) (formed-with (bare_store d) (map told es) w pass.0) (ap (λ n. nat_le n 15_978) (cost-is d es pass.1) ∙ f);
        infos = infos-with (bare_store d).soups (map told es) infos;
        graphs = subst (λ xs. Each (λ (x : ℕ × Entry). IsGraph x.1.graph × (x.1.time < 4294967296)) xs) (sym (entries-same d es pass.1)) (sound-each es sound);
      };
      in_order = pass.1;
    }
  where
    both : (a b : Bool) → a ≡ true → b ≡ true → (a && b) ≡ true
    both a b e f = grind arith

pub kept-passes : (d : Directory) (es : List FullEntry) → AreKept d es → are_of (bare_store d).soups (map told es) ≡ true
kept-passes d es k = soups-passed (bare_store d).soups (map told es) (is-store (store_in d es) (kept-formed (store_in d es) k.kept)).soups_fit k.in_order

pub kept-fits : (d : Directory) (es : List FullEntry) → AreKept d es
    → nat_le (pages_for (length (directory_bytes (bare_store d))) + sum_by (λ (e : FullEntry). entry_pages (as_entry e)) es) 15_978 ≡ true
kept-fits d es k = ap (λ n. nat_le n 15_978) (sym (cost-is d es k.in_order)) ∙ (and_parts (well_formed (store_in d es)) (fits 4099 (store_in d es)) k.kept.valid).1

-- ---- what is read of a backup

-- the directory and the entries of a store are read from its backup
pub contents-kept : (s : Store) → IsKept s → contents_read (texts_from [] (backup s).nodes) ≡ Some (bare s, all_entries s)
contents-kept s k = rw (packed-read (directory_bytes s) (fulls s), directory-kept s k, fulls-read s k) refl

-- where nothing is read, no store has this backup
pub nothing-read : (g : RawGraph) → contents_read (texts_from [] g.nodes) ≡ None → Unbacked g
nothing-read g h = λ s k e. none-some (bare s, all_entries s) (sym h ∙ ap (λ g. contents_read (texts_from [] g.nodes)) (sym e) ∙ contents-kept s k)

texts-total : (ts : List (Vec ℕ Global)) → sum_by (λ (t : Vec ℕ Global). length t.items) ts ≡ sum_by (λ (b : List ℕ). length b) (map (λ (t : Vec ℕ Global). t.items) ts)
texts-total [] = refl
texts-total (t ∷ ts) = sum_by-cons (λ (t : Vec ℕ Global). length t.items) t ts ∙ ap (λ n. length t.items + n) (texts-total ts)
    ∙ sym (sum_by-cons (λ (b : List ℕ). length b) t.items (map (λ (t : Vec ℕ Global). t.items) ts))

four-total : (d : List ℕ) (es : List (List ℕ)) → sum_by (λ (b : List ℕ). length b) ([] ∷ d ∷ [] ∷ es) ≡ length d + sum_by (λ (b : List ℕ). length b) es
four-total d es = omega (arith, sum_by-cons (λ (b : List ℕ). length b) [] (d ∷ [] ∷ es), sum_by-cons (λ (b : List ℕ). length b) d ([] ∷ es), sum_by-cons (λ (b : List ℕ). length b) [] es)

-- nor where the texts have more bytes than those of a store
pub too-long : (g : RawGraph) (ts : List (Vec ℕ Global)) → map (λ (t : Vec ℕ Global). t.items) ts ≡ texts_from [] g.nodes
    → 7_989_000 < sum_by (λ (t : Vec ℕ Global). length t.items) ts → Unbacked g
too-long g ts same more = λ s k e.
    let are : map (λ (t : Vec ℕ Global). t.items) ts ≡ [] ∷ directory_bytes s ∷ [] ∷ fulls s
    = same ∙ ap (λ g. texts_from [] g.nodes) (sym e) ∙ packed-read (directory_bytes s) (fulls s) in
    let total : sum_by (λ (t : Vec ℕ Global). length t.items) ts ≡ length (directory_bytes s) + sum_by (λ (b : List ℕ). length b) (fulls s)
    = texts-total ts ∙ ap (λ l. sum_by (λ (b : List ℕ). length b) l) are ∙ four-total (directory_bytes s) (fulls s) in
    omega (arith, more, total, kept-short s k)

-- a directory and entries that are those of a store
pub found-store : (s : Store) (d : Directory) (es : List FullEntry) → IsKept s → bare s ≡ bare_store d → all_entries s ≡ map told es → AreKept d es × (store_in d es ≡ s)
found-store s d es k b xs =
    let whole : store_in d es ≡ s = ap (λ b. together b (map told es)) (sym b) ∙ ap (λ xs. together (bare s) xs) (sym xs) ∙ store-together s (kept-formed s k) in
    (record { kept = subst IsKept (sym whole) k; in_order = ap (λ b. left_over b.soups (map told es)) (sym b) ∙ ap (λ xs. left_over (bare s).soups xs) (sym xs) ∙ none-left s (kept-formed s k) }, whole)

-- a store on a unit, whose entries are these
pub store-kept : (n : ℕ) (s : Store) (es : List FullEntry) → n ≤ 4099 → valid n s ≡ true → Each (λ (p : Soup). IfSome p.info IsGraph) s.soups → all_entries s ≡ map told es → All IsSound es → IsKept s
store-kept n s es h v infos e sound = record {
  valid = valid-most n s h v;
  infos = infos;
  graphs = subst (λ xs. Each (λ (x : ℕ × Entry). IsGraph x.1.graph × (x.1.time < 4294967296)) xs) (sym e) (sound-each es sound);
}

-- the store that has a backup has the directory and the entries that are read
pub the-store : (g : RawGraph) (d : Directory) (es : List FullEntry) (s : Store) → contents_read (texts_from [] g.nodes) ≡ Some (bare_store d, map told es) → IsKept s → backup s ≡ g
    → (bare s ≡ bare_store d) × (all_entries s ≡ map told es)
the-store g d es s h k e =
    let same : ◌≡◌ {A = Store × List (ℕ × Entry)} (bare s, all_entries s) (bare_store d, map told es) = some-one (bare s, all_entries s) (bare_store d, map told es)
    (sym (contents-kept s k) ∙ ap (λ g. contents_read (texts_from [] g.nodes)) e ∙ h) in
    (ap {A = Store × List (ℕ × Entry)} {B = Store} (λ x. x.0) same, ap {A = Store × List (ℕ × Entry)} {B = List (ℕ × Entry)} (λ x. x.1) same)

-- ---- what types say, one after another

pub infos-none : (rows : List SoupRow) → length rows < 1 → Each (λ (p : Soup). IfSome p.info IsGraph) (map row_soup rows)
infos-none [] low = tt
infos-none (r ∷ rows) low = absurd (omega (arith, low))

pub infos-more : (r : SoupRow) (left : List SoupRow) → left ≡ r ∷ take (length left - 1) (drop 1 left) → IfSome r.info IsGraph
    → Each (λ (p : Soup). IfSome p.info IsGraph) (map row_soup (take (length left - 1) (drop 1 left))) → Each (λ (p : Soup). IfSome p.info IsGraph) (map row_soup left)
infos-more r left o is h = subst (λ (l : List SoupRow). Each (λ (p : Soup). IfSome p.info IsGraph) (map row_soup l)) (sym o) (is, h)

pub sound-none : (es : List FullEntry) → length es < 1 → All IsSound es
sound-none [] low = All-nil IsSound
sound-none (e ∷ es) low = absurd (omega (arith, low))

pub sound-more : (e : FullEntry) (left : List FullEntry) → left ≡ e ∷ take (length left - 1) (drop 1 left) → IsSound e → All IsSound (take (length left - 1) (drop 1 left)) → All IsSound left
sound-more e left o is h = subst (λ (l : List FullEntry). All IsSound l) (sym o) (All-cons IsSound e (take (length left - 1) (drop 1 left)) is h)

-- ---- a store that has them

infos-of : (ps : List Soup) → Each (λ (p : Soup). IfSome p.info IsGraph) (map emptied ps) → Each (λ (p : Soup). IfSome p.info IsGraph) ps
infos-of [] h = tt
infos-of (p ∷ ps) h = (h.0, infos-of ps h.1)

-- a store with this directory and these entries is what they are
pub store-theirs : (d : Directory) (es : List FullEntry) (s : Store) → Each (λ (p : Soup). IfSome p.info IsGraph) (bare_store d).soups → All IsSound es → valid 4099 s ≡ true
    → bare s ≡ bare_store d → all_entries s ≡ map told es → AreKept d es
store-theirs d es s infos sound v b xs =
    let its = infos-of s.soups (subst (λ (t : Store). Each (λ (p : Soup). IfSome p.info IsGraph) t.soups) (sym b) infos) in
    (found-store s d es (store-kept 4099 s es (omega arith) v its xs sound) b xs).0

-- a directory is read from the bytes of a text
the-directory : (texts : List (List ℕ)) (d : Store) (xs : List (ℕ × Entry)) → contents_read texts ≡ Some (d, xs) → (bytes : List ℕ) × (directory_read stream_graph 2 bytes ≡ Some d)
the-directory [] d xs h = absurd (none-some (d, xs) h)
the-directory (a ∷ []) d xs h = absurd (none-some (d, xs) h)
the-directory (a ∷ b ∷ []) d xs h = absurd (none-some (d, xs) h)
the-directory (a ∷ b ∷ z ∷ texts) d xs h = go (directory_read stream_graph 2 b) (every (map full_read texts)) refl h
  where
    go : (o : Option Store) (ys : Option (List (ℕ × Entry))) → directory_read stream_graph 2 b ≡ o → with_entries ys o ≡ Some (d, xs)
        → (bytes : List ℕ) × (directory_read stream_graph 2 bytes ≡ Some d)
    go None ys e h = absurd (none-some (d, xs) h)
    go (Some s) None e h = absurd (none-some (d, xs) h)
    go (Some s) (Some l) e h =
        let same : ◌≡◌ {A = Store × List (ℕ × Entry)} (s, l) (d, xs) = some-one (s, l) (d, xs) h in
        (b, e ∙ ap {A = Store × List (ℕ × Entry)} {B = Option Store} (λ x. Some x.0) same)

-- it is well formed
pub read-formed : (texts : List (List ℕ)) (d : Store) (xs : List (ℕ × Entry)) → contents_read texts ≡ Some (d, xs) → well_formed d ≡ true
read-formed texts d xs h = let r = the-directory texts d xs h in (directory-parts stream_graph 2 r.0 d r.1).2
