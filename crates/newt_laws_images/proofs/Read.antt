-- What is written is read back: the directory and its parts.
use Rattle.std.proofs.Common.{arith, ◌≡◌, refl, ap, sym, ◌∙◌, subst, ℕ, ◌+◌, ◌*◌, ◌/◌, ◌%◌, ◌<◌, ◌≤◌, List, [], ◌∷◌, ◌++◌, true, cond, Option, Some, None, option_and_then, option_map, length, take, drop, flat_map, fold, map, inl, inr}
use Rattle.std.proofs.lemmas.List.{append_assoc}
use Rattle.std.proofs.Math.Seq.{take-append_seam, drop-append_seam}
use Rattle.std.proofs.lemmas.Bool.{le-leb, leb-true}
use lib.ListN.{length-append}
use Rattle.newt_base.specs.Text.{be16, be32}
use Rattle.newt_graph.specs.Graph.{RawGraph}
use Rattle.newt_spec_nsof.specs.Flat.{flat}
use Rattle.newt_spec_store.specs.declared.Kind.{Kind}
use Rattle.newt_spec_store.specs.declared.Kind.TheVariants as kind
use Rattle.newt_spec_store.specs.declared.Order.{Order}
use Rattle.newt_spec_store.specs.declared.Order.TheVariants as order
use Rattle.newt_spec_store.specs.Keys.{Path, IndexPart}
use Rattle.newt_spec_store.specs.Store.{TagTable, Soup, Store}
use Rattle.newt_spec_store.specs.Cost as cost
use Rattle.newt_spec_store.specs.Laid.{AreInfosRead, bare, bare_soup}
use Rattle.newt_spec_store.specs.Reading.{Take, ◌>>=◌, give, some_bytes, number, times, counted, whole, whole_of, text, path, kind_of, direction_of, part, table, written, graph, info, extra_of, soup, directory}
use Rattle.newt_spec_store.specs.Valid.{well_formed, valid_soup, valid_info}
use Rattle.newt_spec_graph.specs.Lists.{Each, Among}
use Rattle.newt_spec_graph.proofs.Lists.{each-at, each-from, each-list_all, rises-above}
use Rattle.newt_laws_images.proofs.Stores.{is-store, is-soup}
use Rattle.newt_laws_images.proofs.Texts.{written-back}

-- the bytes give the value, whatever follows them
abbrev pub Reads : {A : Type 0} → Take A → List ℕ → A → Type 0
Reads p bytes a = (rest : List ℕ) → p (bytes ++ rest) ≡ Some (a, rest)

pub reads-then : {A B : Type 0} (p : Take A) (f : A → Take B) (xs ys : List ℕ) (a : A) (b : B) → Reads p xs a → Reads (f a) ys b → Reads (p >>= f) (xs ++ ys) b
reads-then p f xs ys a b h k rest =
    ap (λ zs. option_and_then (λ r. f r.0 r.1) (p zs)) (append_assoc xs ys rest) ∙ ap (option_and_then (λ r. f r.0 r.1)) (h (ys ++ rest)) ∙ k rest

pub reads-last : {A B : Type 0} (p : Take A) (f : A → B) (xs : List ℕ) (a : A) → Reads p xs a → Reads (p >>= (λ a. give (f a))) xs (f a)
reads-last p f xs a h rest = ap (option_and_then (λ r. give (f r.0) r.1)) (h rest)

pub reads-some : (xs : List ℕ) → Reads (some_bytes (length xs)) xs xs
reads-some xs rest =
    ap (λ b. cond b (Some (take (length xs) (xs ++ rest), drop (length xs) (xs ++ rest))) None) (le-leb (length xs) (length (xs ++ rest)) (omega (arith, length-append xs rest)))
    ∙ ap (λ ys. Some (ys, drop (length xs) (xs ++ rest))) (take-append_seam xs rest) ∙ ap (λ ys. Some (xs, ys)) (drop-append_seam xs rest)

reads-number : (n : ℕ) (bytes : List ℕ) → Reads (number (length bytes)) bytes (fold (λ a b. a * 256 + b) 0 bytes)
reads-number n bytes = reads-last (some_bytes (length bytes)) (λ bs. fold (λ a b. a * 256 + b) 0 bs) bytes bytes (reads-some bytes)

pub reads-byte : (n : ℕ) → Reads (number 1) (n ∷ []) n
reads-byte n = subst (Reads (number 1) (n ∷ [])) (value n) (reads-number n (n ∷ []))
  where
    value : (n : ℕ) → 0 * 256 + n ≡ n
    value n = omega arith

pub reads-be16 : (n : ℕ) → n < 65536 → Reads (number 2) (be16 n) n
reads-be16 n h = subst (Reads (number 2) (be16 n)) (value n h) (reads-number n (be16 n))
  where
    value : (n : ℕ) → n < 65536 → (0 * 256 + n / 256 % 256) * 256 + n % 256 ≡ n
    value n h = omega arith

pub reads-be32 : (n : ℕ) → n < 4294967296 → Reads (number 4) (be32 n) n
reads-be32 n h = subst (Reads (number 4) (be32 n)) (value n h) (reads-number n (be32 n))
  where
    value : (n : ℕ) → n < 4294967296 → (((0 * 256 + n / 65536 / 256 % 256) * 256 + n / 65536 % 256) * 256 + n / 256 % 256) * 256 + n % 256 ≡ n
    value n h = omega arith

pub reads-times : {A : Type 0} (item : Take A) (bytes : A → List ℕ) (xs : List A) → Each (λ x. Reads item (bytes x) x) xs → Reads (times (length xs) item) (flat_map bytes xs) xs
reads-times item bytes [] h = λ rest. refl
reads-times item bytes (x ∷ xs) h = reads-then item (λ a. times (length xs) item >>= λ as'. give (a ∷ as')) (bytes x) (flat_map bytes xs) x (x ∷ xs) h.0
    (reads-last (times (length xs) item) (λ as'. x ∷ as') (flat_map bytes xs) xs (reads-times item bytes xs h.1))

pub reads-counted : {A : Type 0} (item : Take A) (bytes : A → List ℕ) (xs : List A) → Each (λ x. Reads item (bytes x) x) xs → Reads (counted item) (cost.counted bytes xs) xs
reads-counted item bytes xs h = reads-then (number 1) (λ n. times n item) (length xs ∷ []) (flat_map bytes xs) (length xs) xs (reads-byte (length xs)) (reads-times item bytes xs h)

pub reads-text : (t : List ℕ) → Reads text (cost.text_bytes t) t
reads-text t = reads-then (number 1) some_bytes (length t ∷ []) t (length t) t (reads-byte (length t)) (reads-some t)

each-of : {X : Type 0} (P : X → Type 0) → ((x : X) → P x) → (xs : List X) → Each P xs
each-of P h [] = tt
each-of P h (x ∷ xs) = (h x, each-of P h xs)

pub reads-path : (p : Path) → Reads path (cost.path_bytes p) p
reads-path p = reads-counted text cost.text_bytes p (each-of _ reads-text p)

reads-kind : (k : Kind) → Reads (number 1 >>= kind_of) (cost.kind_byte k ∷ []) k
reads-kind k = reads-then (number 1) kind_of (cost.kind_byte k ∷ []) [] (cost.kind_byte k) k (reads-byte (cost.kind_byte k)) (go k)
  where
    go : (k : Kind) → Reads (kind_of (cost.kind_byte k)) [] k
    go kind.Text rest = refl
    go kind.Int rest = refl
    go kind.Char rest = refl
    go kind.Symbol rest = refl

reads-direction : (d : Order) → Reads (number 1 >>= direction_of) (cost.direction_byte d ∷ []) d
reads-direction d = reads-then (number 1) direction_of (cost.direction_byte d ∷ []) [] (cost.direction_byte d) d (reads-byte (cost.direction_byte d)) (go d)
  where
    go : (d : Order) → Reads (direction_of (cost.direction_byte d)) [] d
    go order.Ascend rest = refl
    go order.Descend rest = refl

pub reads-part : (p : IndexPart) → Reads part (cost.part_bytes p) p
reads-part p = reads-then (number 1 >>= kind_of) (λ k. number 1 >>= direction_of >>= λ d. path >>= λ s. give (record { path = s; kind = k; direction = d }))
    (cost.kind_byte p.kind ∷ []) (cost.direction_byte p.direction ∷ cost.path_bytes p.path) p.kind p (reads-kind p.kind)
    (reads-then (number 1 >>= direction_of) (λ d. path >>= λ s. give (record { path = s; kind = p.kind; direction = d }))
    (cost.direction_byte p.direction ∷ []) (cost.path_bytes p.path) p.direction p (reads-direction p.direction)
    (reads-last path (λ s. record { path = s; kind = p.kind; direction = p.direction }) (cost.path_bytes p.path) p.path (reads-path p.path)))

pub reads-table : (t : TagTable) → Reads table (cost.table_bytes t) t
reads-table t = reads-then path (λ p. counted text >>= λ s. give (record { path = p; symbols = s })) (cost.path_bytes t.path) (cost.counted cost.text_bytes t.symbols) t.path t (reads-path t.path)
    (reads-last (counted text) (λ s. record { path = t.path; symbols = s }) (cost.counted cost.text_bytes t.symbols) t.symbols (reads-counted text cost.text_bytes t.symbols (each-of _ reads-text t.symbols)))

module _ (graph_of : List ℕ → Option RawGraph) where
  -- an info frame is read back from its text, whose length fits in two bytes
  abbrev pub InfoFits : Option RawGraph → Type 0
  InfoFits None = Unit {0}
  InfoFits (Some g) = (graph_of (flat g) ≡ Some g) × (length (flat g) < 65536)

  reads-graph : (g : RawGraph) → graph_of (flat g) ≡ Some g → Reads (graph graph_of (length (flat g))) (flat g) g
  reads-graph g h rest = ap (option_and_then (λ r. option_map (λ k. (k, r.1)) (written graph_of r.0))) (reads-some (flat g) rest) ∙ ap (option_map (λ k. (k, rest))) (written-back graph_of g h)

  reads-info : (g : RawGraph) → InfoFits (Some g) → Reads (info graph_of) (cost.info_bytes g) g
  reads-info g h = reads-then (number 2) (graph graph_of) (be16 (length (flat g))) (flat g) (length (flat g)) g (reads-be16 (length (flat g)) h.1) (reads-graph g h.0)

  pub reads-extra : (t : Option TagTable) (i : Option RawGraph) → InfoFits i → Reads (number 1 >>= extra_of graph_of) (cost.extra_bytes t i) (t, i)
  reads-extra None None h = reads-then (number 1) (extra_of graph_of) (0 ∷ []) [] 0 (None, None) (reads-byte 0) (λ rest. refl)
  reads-extra (Some t) None h = reads-then (number 1) (extra_of graph_of) (1 ∷ []) (cost.table_bytes t) 1 (Some t, None) (reads-byte 1) (reads-last table (λ t. (Some t, None)) (cost.table_bytes t) t (reads-table t))
  reads-extra None (Some g) h = reads-then (number 1) (extra_of graph_of) (2 ∷ []) (cost.info_bytes g) 2 (None, Some g) (reads-byte 2) (reads-last (info graph_of) (λ g. (None, Some g)) (cost.info_bytes g) g (reads-info g h))
  reads-extra (Some t) (Some g) h = reads-then (number 1) (extra_of graph_of) (3 ∷ []) (cost.table_bytes t ++ cost.info_bytes g) 3 (Some t, Some g) (reads-byte 3)
      (reads-then table (λ t. info graph_of >>= λ g. give (Some t, Some g)) (cost.table_bytes t) (cost.info_bytes g) t (Some t, Some g) (reads-table t) (reads-last (info graph_of) (λ g. (Some t, Some g)) (cost.info_bytes g) g (reads-info g h)))

-- bytes in another grouping
pub regroup : {A : Type 0} (p : Take A) (a : A) (xs ys : List ℕ) → xs ≡ ys → Reads p ys a → Reads p xs a
regroup p a xs ys e h = subst (λ zs. Reads p zs a) (sym e) h

four : (a b c d : List ℕ) → a ++ b ++ c ++ d ≡ a ++ (b ++ (c ++ d))
four a b c d = append_assoc (a ++ b) c d ∙ append_assoc a b (c ++ d)

five : (a b c d e : List ℕ) → a ++ b ++ c ++ d ++ e ≡ a ++ (b ++ (c ++ (d ++ e)))
five a b c d e = append_assoc (a ++ b ++ c) d e ∙ four a b c (d ++ e)

pub reads-soup : (graph_of : List ℕ → Option RawGraph) (p : Soup) → InfoFits graph_of p.info → p.sig < 65536 → p.next_uid < 4294967296 → Reads (soup graph_of) (cost.soup_bytes p) (bare_soup p)
reads-soup graph_of p i h k = regroup (soup graph_of) (bare_soup p) (cost.soup_bytes p) _ (five (cost.text_bytes p.name) (be16 p.sig) (be32 p.next_uid) (cost.counted (cost.counted cost.part_bytes) p.specs) (cost.extra_bytes p.tags p.info))
    (reads-then text _ (cost.text_bytes p.name) (be16 p.sig ++ (be32 p.next_uid ++ (cost.counted (cost.counted cost.part_bytes) p.specs ++ cost.extra_bytes p.tags p.info))) p.name (bare_soup p) (reads-text p.name)
    (reads-then (number 2) _ (be16 p.sig) (be32 p.next_uid ++ (cost.counted (cost.counted cost.part_bytes) p.specs ++ cost.extra_bytes p.tags p.info)) p.sig (bare_soup p) (reads-be16 p.sig h)
    (reads-then (number 4) _ (be32 p.next_uid) (cost.counted (cost.counted cost.part_bytes) p.specs ++ cost.extra_bytes p.tags p.info) p.next_uid (bare_soup p) (reads-be32 p.next_uid k)
    (reads-then (counted (counted part)) _ (cost.counted (cost.counted cost.part_bytes) p.specs) (cost.extra_bytes p.tags p.info) p.specs (bare_soup p)
    (reads-counted (counted part) (cost.counted cost.part_bytes) p.specs (each-of _ (λ spec. reads-counted part cost.part_bytes spec (each-of _ reads-part spec)) p.specs))
    (reads-last (number 1 >>= extra_of graph_of) (λ extra. record { name = p.name; sig = p.sig; next_uid = p.next_uid; specs = p.specs; tags = extra.0; info = extra.1; entries = [] }) (cost.extra_bytes p.tags p.info) (p.tags, p.info) (reads-extra graph_of p.tags p.info i))))))

-- items that are read back as something less
reads-times-as : {A B : Type 0} (item : Take B) (bytes : A → List ℕ) (g : A → B) (xs : List A) → Each (λ x. Reads item (bytes x) (g x)) xs → Reads (times (length xs) item) (flat_map bytes xs) (map g xs)
reads-times-as item bytes g [] h = λ rest. refl
reads-times-as item bytes g (x ∷ xs) h = reads-then item (λ a. times (length xs) item >>= λ as'. give (a ∷ as')) (bytes x) (flat_map bytes xs) (g x) (map g (x ∷ xs)) h.0
    (reads-last (times (length xs) item) (λ as'. g x ∷ as') (flat_map bytes xs) (map g xs) (reads-times-as item bytes g xs h.1))

reads-counted-as : {A B : Type 0} (item : Take B) (bytes : A → List ℕ) (g : A → B) (xs : List A) → Each (λ x. Reads item (bytes x) (g x)) xs → Reads (counted item) (cost.counted bytes xs) (map g xs)
reads-counted-as item bytes g xs h = reads-then (number 1) (λ n. times n item) (length xs ∷ []) (flat_map bytes xs) (length xs) (map g xs) (reads-byte (length xs)) (reads-times-as item bytes g xs h)

pub reads-directory : (graph_of : List ℕ → Option RawGraph) (s : Store) → s.sig < 4294967296 → s.next_soup < 65536
    → Each (λ p. (p.sig < 65536) × (p.next_uid < 4294967296)) s.soups → Each (λ p. InfoFits graph_of p.info) s.soups → Reads (directory graph_of) (cost.directory_bytes s) (bare s)
reads-directory graph_of s h k each infos = regroup (directory graph_of) (bare s) (cost.directory_bytes s) _ (four (cost.text_bytes s.name) (be32 s.sig) (be16 s.next_soup) (cost.counted cost.soup_bytes s.soups))
    (reads-then text _ (cost.text_bytes s.name) (be32 s.sig ++ (be16 s.next_soup ++ cost.counted cost.soup_bytes s.soups)) s.name (bare s) (reads-text s.name)
    (reads-then (number 4) _ (be32 s.sig) (be16 s.next_soup ++ cost.counted cost.soup_bytes s.soups) s.sig (bare s) (reads-be32 s.sig h)
    (reads-then (number 2) _ (be16 s.next_soup) (cost.counted cost.soup_bytes s.soups) s.next_soup (bare s) (reads-be16 s.next_soup k)
    (reads-last (counted (soup graph_of)) (λ soups. record { name = s.name; sig = s.sig; next_soup = s.next_soup; soups = soups }) (cost.counted cost.soup_bytes s.soups) (map bare_soup s.soups)
    (reads-counted-as (soup graph_of) cost.soup_bytes bare_soup s.soups (each-from _ s.soups (λ p m.
    let r = each-at (λ p. (p.sig < 65536) × (p.next_uid < 4294967296)) s.soups p each m in reads-soup graph_of p (each-at (λ p. InfoFits graph_of p.info) s.soups p infos m) r.0 r.1)))))))

append-nil : (xs : List ℕ) → xs ++ [] ≡ xs
append-nil [] = refl
append-nil (x ∷ xs) = ap (λ ys. x ∷ ys) (append-nil xs)

pub reads-whole : {A : Type 0} (p : Take A) (bytes : List ℕ) (a : A) → Reads p bytes a → whole p bytes ≡ Some a
reads-whole p bytes a h = ap whole_of (ap p (sym (append-nil bytes)) ∙ h [])

-- a valid store's numbers fit their fields
pub valid-fields : (s : Store) → well_formed s ≡ true → (s.sig < 4294967296) × (s.next_soup < 65536) × Each (λ p. (p.sig < 65536) × (p.next_uid < 4294967296)) s.soups
valid-fields s h = let r = is-store s h in (
  omega (arith, leb-true s.sig 536870911 r.sig_fits),
  omega (arith, r.next),
  each-from _ s.soups (λ p m.
      let sig = each-at (λ n. (0 ≤ n) × (n < s.next_soup)) (map (λ (p : Soup). p.sig) s.soups) p.sig (rises-above 0 s.next_soup (map (λ (p : Soup). p.sig) s.soups) r.sigs) (map-among (λ (p : Soup). p.sig) s.soups p m) in
      let q = is-soup p (each-at (λ p. valid_soup p ≡ true) s.soups p (each-list_all valid_soup s.soups r.soups_fit) m) in
      (omega (arith, sig.1, r.next), omega (arith, q.next))),
)
  where
    map-among : {X Y : Type 0} (g : X → Y) (xs : List X) (x : X) → Among xs x → Among (map g xs) (g x)
    map-among g [] x m = absurd m
    map-among g (y ∷ xs) x (inl e) = inl (ap g e)
    map-among g (y ∷ xs) x (inr m) = inr (map-among g xs x m)

-- the text of an info frame has at most 4,000 bytes
pub info-short : (g : RawGraph) → valid_info (Some g) ≡ true → length (flat g) ≤ 4000
info-short g h = grind (arith, h)

pub directory-back : (graph_of : List ℕ → Option RawGraph) (s : Store) → AreInfosRead graph_of s → well_formed s ≡ true → whole (directory graph_of) (cost.directory_bytes s) ≡ Some (bare s)
directory-back graph_of s reads h = let f = valid-fields s h in reads-whole (directory graph_of) (cost.directory_bytes s) (bare s) (reads-directory graph_of s f.0 f.1 f.2 (each-from _ s.soups infos))
  where
    fits : (i : Option RawGraph) → valid_info i ≡ true → ((g : RawGraph) → i ≡ Some g → graph_of (flat g) ≡ Some g) → InfoFits graph_of i
    fits None v r = tt
    fits (Some g) v r = (r g refl, omega (arith, info-short g v))

    infos : (p : Soup) → Among s.soups p → InfoFits graph_of p.info
    infos p m = fits p.info (is-soup p (each-at (λ p. valid_soup p ≡ true) s.soups p (each-list_all valid_soup s.soups (is-store s h).soups_fit) m)).info_fits (λ g e. reads p g m e)
