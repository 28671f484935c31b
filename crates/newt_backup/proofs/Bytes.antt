-- The bytes of a directory and of an entry are bytes.
use Rattle.std.proofs.Common.{◌≡◌, ℕ, ◌/◌, ◌%◌, ◌<◌, Bool, true, List, [], ◌∷◌, ◌++◌, length, Option, Some, None, arith, flat_map, nat_lt}
use Rattle.std.specs.Prelude.{IfSome}
use Rattle.std.specs.List.{list_all}
use Rattle.std.proofs.lemmas.Bool.{and_parts}
use Rattle.std.proofs.lemmas.List.Elements.{All-nil, All-cons, All-append}
use Rattle.newt_base.specs.Names.{is_name, is_identifier, is_printable, is_word, valid_path}
use Rattle.newt_base.specs.Text.{be16, be32}
use Rattle.newt_graph.specs.Graph.{RawGraph, IsGraph}
use Rattle.newt_spec_nsof.specs.Text.{AreBytes}
use Rattle.newt_spec_nsof.specs.Flat.{flat}
use Rattle.newt_nsof_flat.proofs.Spelled.{written_fits}
use Rattle.newt_spec_graph.specs.Lists.{Each}
use Rattle.newt_spec_store.specs.declared.Kind.{Kind}
use Rattle.newt_spec_store.specs.declared.Kind.TheVariants as kind
use Rattle.newt_spec_store.specs.declared.Order.{Order}
use Rattle.newt_spec_store.specs.declared.Order.TheVariants as order
use Rattle.newt_spec_store.specs.Keys.{IndexPart, IndexSpec, Path}
use Rattle.newt_spec_store.specs.Store.{Entry, TagTable, Soup, Store}
use Rattle.newt_spec_store.specs.Cost.{counted, text_bytes, path_bytes, kind_byte, direction_byte, part_bytes, table_bytes, info_bytes, extra_bytes, soup_bytes, directory_bytes}
use Rattle.newt_spec_store.specs.Valid.{valid_spec, valid_tags, valid_soup, well_formed}
use Rattle.newt_laws_images.proofs.Stores.{is-store, is-soup}
use Rattle.newt_backup.specs.Backup.{full}

both : (xs ys : List ℕ) → AreBytes xs → AreBytes ys → AreBytes (xs ++ ys)
both xs ys h k = All-append (λ b. b < 256) xs ys h k

more : (n : ℕ) (xs : List ℕ) → n < 256 → AreBytes xs → AreBytes (n ∷ xs)
more n xs h k = All-cons (λ b. b < 256) n xs h k

none : AreBytes []
none = All-nil (λ b. b < 256)

byte-of : (n : ℕ) → n % 256 < 256
byte-of n = omega arith

be16-bytes : (n : ℕ) → AreBytes (be16 n)
be16-bytes n = more (n / 256 % 256) (n % 256 ∷ []) (byte-of (n / 256)) (more (n % 256) [] (byte-of n) none)

be32-bytes : (n : ℕ) → AreBytes (be32 n)
be32-bytes n = both (be16 (n / 65536)) (be16 n) (be16-bytes (n / 65536)) (be16-bytes n)

flat-bytes : {X : Type 0} (good : X → Bool) (f : X → List ℕ) → ((x : X) → good x ≡ true → AreBytes (f x)) → (xs : List X) → list_all good xs ≡ true → AreBytes (flat_map f xs)
flat-bytes good f one [] h = none
flat-bytes good f one (x ∷ xs) h = both (f x) (flat_map f xs) (one x (and_parts (good x) (list_all good xs) h).0) (flat-bytes good f one xs (and_parts (good x) (list_all good xs) h).1)

counted-bytes : {X : Type 0} (good : X → Bool) (f : X → List ℕ) → ((x : X) → good x ≡ true → AreBytes (f x)) → (xs : List X) → list_all good xs ≡ true → length xs < 256 → AreBytes (counted f xs)
counted-bytes good f one xs h few = more (length xs) (flat_map f xs) few (flat-bytes good f one xs h)

letters : (test : ℕ → Bool) → ((b : ℕ) → test b ≡ true → b < 256) → (xs : List ℕ) → list_all test xs ≡ true → AreBytes xs
letters test small [] h = none
letters test small (x ∷ xs) h = more x xs (small x (and_parts (test x) (list_all test xs) h).0) (letters test small xs (and_parts (test x) (list_all test xs) h).1)

printable : (b : ℕ) → is_printable b ≡ true → b < 256
printable b t = grind arith

name-bytes : (name : List ℕ) → is_name name ≡ true → AreBytes (text_bytes name)
name-bytes name h = more (length name) name (few name h) (letters is_printable printable name (last name h))
  where
    few : (name : List ℕ) → is_name name ≡ true → length name < 256
    few name h = grind arith

    last : (name : List ℕ) → is_name name ≡ true → list_all is_printable name ≡ true
    last name h = grind arith

letter : (b : ℕ) → is_word b ≡ true → b < 256
letter b t = grind arith

word-bytes : (word : List ℕ) → is_identifier word ≡ true → AreBytes (text_bytes word)
word-bytes word h = more (length word) word (few word h) (letters is_word letter word (last word h))
  where
    few : (word : List ℕ) → is_identifier word ≡ true → length word < 256
    few word h = grind arith

    last : (word : List ℕ) → is_identifier word ≡ true → list_all is_word word ≡ true
    last word h = grind arith

path-is : (path : Path) → valid_path path ≡ true → AreBytes (path_bytes path)
path-is path h = counted-bytes is_identifier text_bytes word-bytes path (last path h) (few path h)
  where
    few : (path : Path) → valid_path path ≡ true → length path < 256
    few path h = grind arith

    last : (path : Path) → valid_path path ≡ true → list_all is_identifier path ≡ true
    last path h = grind arith

part-is : (p : IndexPart) → valid_path p.path ≡ true → AreBytes (part_bytes p)
part-is p h = more (kind_byte p.kind) (direction_byte p.direction ∷ path_bytes p.path) (of-kind p.kind) (more (direction_byte p.direction) (path_bytes p.path) (of-order p.direction) (path-is p.path h))
  where
    of-kind : (k : Kind) → kind_byte k < 256
    of-kind kind.Text = omega arith
    of-kind kind.Int = omega arith
    of-kind kind.Char = omega arith
    of-kind kind.Symbol = omega arith

    of-order : (o : Order) → direction_byte o < 256
    of-order order.Ascend = omega arith
    of-order order.Descend = omega arith

spec-is : (spec : IndexSpec) → valid_spec spec ≡ true → AreBytes (counted part_bytes spec)
spec-is spec h = counted-bytes (λ (p : IndexPart). valid_path p.path) part_bytes part-is spec (last spec h) (few spec h)
  where
    few : (spec : IndexSpec) → valid_spec spec ≡ true → length spec < 256
    few spec h = grind arith

    last : (spec : IndexSpec) → valid_spec spec ≡ true → list_all (λ p. valid_path p.path) spec ≡ true
    last spec h = grind arith

table-is : (t : TagTable) → valid_tags (Some t) ≡ true → AreBytes (table_bytes t)
table-is t h = both (path_bytes t.path) (counted text_bytes t.symbols) (path-is t.path (first t h)) (counted-bytes is_identifier text_bytes word-bytes t.symbols (last t h) (few t h))
  where
    first : (t : TagTable) → valid_tags (Some t) ≡ true → valid_path t.path ≡ true
    first t h = grind arith

    few : (t : TagTable) → valid_tags (Some t) ≡ true → length t.symbols < 256
    few t h = grind arith

    last : (t : TagTable) → valid_tags (Some t) ≡ true → list_all is_identifier t.symbols ≡ true
    last t h = grind arith

flat-are : (g : RawGraph) → IsGraph g → AreBytes (flat g)
flat-are g is = letters (λ b. nat_lt b 256) (λ b t. small b t) (flat g) (written_fits g is)
  where
    small : (b : ℕ) → nat_lt b 256 ≡ true → b < 256
    small b t = grind arith

info-is : (g : RawGraph) → IsGraph g → AreBytes (info_bytes g)
info-is g is = both (be16 (length (flat g))) (flat g) (be16-bytes (length (flat g))) (flat-are g is)

extra-are : (tags : Option TagTable) (info : Option RawGraph) → valid_tags tags ≡ true → IfSome info IsGraph → AreBytes (extra_bytes tags info)
extra-are None None h is = more 0 [] (omega arith) none
extra-are (Some t) None h is = more 1 (table_bytes t) (omega arith) (table-is t h)
extra-are None (Some g) h is = more 2 (info_bytes g) (omega arith) (info-is g is)
extra-are (Some t) (Some g) h is = more 3 (table_bytes t ++ info_bytes g) (omega arith) (both (table_bytes t) (info_bytes g) (table-is t h) (info-is g is))

soup-is : (p : Soup) → valid_soup p ≡ true → IfSome p.info IsGraph → AreBytes (soup_bytes p)
soup-is p h info =
    let is = is-soup p h in
    let specs = counted (counted part_bytes) p.specs in
    both (text_bytes p.name ++ be16 p.sig ++ be32 p.next_uid ++ specs) (extra_bytes p.tags p.info)
    (both (text_bytes p.name ++ be16 p.sig ++ be32 p.next_uid) specs
    (both (text_bytes p.name ++ be16 p.sig) (be32 p.next_uid) (both (text_bytes p.name) (be16 p.sig) (name-bytes p.name is.named) (be16-bytes p.sig)) (be32-bytes p.next_uid))
    (counted-bytes valid_spec (counted part_bytes) spec-is p.specs is.specs_fit (omega (arith, is.count))))
    (extra-are p.tags p.info is.tags_fit info)

soups-are : (ps : List Soup) → list_all valid_soup ps ≡ true → Each (λ (p : Soup). IfSome p.info IsGraph) ps → AreBytes (flat_map soup_bytes ps)
soups-are [] h infos = none
soups-are (p ∷ ps) h infos =
    let v = and_parts (valid_soup p) (list_all valid_soup ps) h in
    both (soup_bytes p) (flat_map soup_bytes ps) (soup-is p v.0 infos.0) (soups-are ps v.1 infos.1)

-- the bytes of a directory
pub directory-are : (s : Store) → well_formed s ≡ true → Each (λ (p : Soup). IfSome p.info IsGraph) s.soups → AreBytes (directory_bytes s)
directory-are s h infos =
    let is = is-store s h in
    let soups = counted soup_bytes s.soups in
    both (text_bytes s.name ++ be32 s.sig ++ be16 s.next_soup) soups
    (both (text_bytes s.name ++ be32 s.sig) (be16 s.next_soup) (both (text_bytes s.name) (be32 s.sig) (name-bytes s.name is.named) (be32-bytes s.sig)) (be16-bytes s.next_soup))
    (more (length s.soups) (flat_map soup_bytes s.soups) (omega (arith, is.count)) (soups-are s.soups is.soups_fit infos))

-- the bytes of an entry
pub full-bytes : (sig : ℕ) (e : Entry) → IsGraph e.graph → AreBytes (full sig e)
full-bytes sig e g = both (be16 sig) (be32 e.uid ++ be32 e.time ++ flat e.graph) (be16-bytes sig) (both (be32 e.uid) (be32 e.time ++ flat e.graph) (be32-bytes e.uid)
    (both (be32 e.time) (flat e.graph) (be32-bytes e.time) (flat-are e.graph g)))
