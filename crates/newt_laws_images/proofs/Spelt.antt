-- What is read is written so: bytes that give a value are the bytes of the value, where each is below 256.
use Rattle.std.proofs.Common.{arith, ◌≡◌, refl, ap, sym, ◌∙◌, subst, ℕ, zero, suc, ◌+◌, ◌-◌, ◌*◌, ◌/◌, ◌%◌, ◌<◌, ◌≤◌, List, [], ◌∷◌, ◌++◌, true, false, Bool, cond, Option, Some, None, option_and_then, option_map, length, take, drop, flat_map, fold, nat_le}
use Rattle.std.proofs.lemmas.List.{append_assoc}
use Rattle.std.proofs.lemmas.Bool.{leb-true}
use Rattle.newt_base.specs.Text.{be16, be32}
use Rattle.newt_graph.specs.Graph.{RawGraph}
use Rattle.newt_spec_nsof.specs.Flat.{flat}
use Rattle.newt_spec_graph.specs.Lists.{Each}
use Rattle.newt_spec_graph.proofs.Lists.{some-same, none-some}
use Rattle.newt_spec_store.specs.declared.Kind.TheVariants as kind
use Rattle.newt_spec_store.specs.declared.Order.TheVariants as order
use Rattle.newt_spec_store.specs.Store.{TagTable, Store}
use Rattle.newt_spec_store.specs.Cost as cost
use Rattle.newt_spec_store.specs.StoreOf.{LargeRow, EntryRow, large_row, entry_fields, entry_row}
use Rattle.newt_spec_store.specs.Reading.{Take, ◌>>=◌, give, refuse, some_bytes, number, times, counted, whole, whole_of, text, path, kind_of, direction_of, part, table, written, graph, info, extra_of, soup, directory}
use Rattle.newt_laws_images.proofs.Texts.{written-parts}

abbrev pub Small : List ℕ → Type 0
Small bytes = Each (λ b. b < 256) bytes

-- The bytes after a prefix that give a value make the value's bytes with it, and the value is as told.
abbrev pub Ends : {A : Type 0} → List ℕ → Take A → (A → List ℕ) → (A → Type 0) → Type 0
Ends {A} pre p w Q = (bytes rest : List ℕ) (a : A) → Small bytes → p bytes ≡ Some (a, rest) → (pre ++ bytes ≡ w a ++ rest) × Small rest × Q a

abbrev pub Anything : {A : Type 0} → A → Type 0
Anything a = Unit {0}

pub read-parts : {A : Type 0} (a b : A) (r s : List ℕ) → ◌≡◌ {A = Option (A × List ℕ)} (Some (a, r)) (Some (b, s)) → (a ≡ b) × (r ≡ s)
read-parts {A} a b r s h = let k = some-same {X = A × List ℕ} (a, r) (b, s) h in (ap {A = A × List ℕ} (λ p. p.0) k, ap {A = A × List ℕ} (λ p. p.1) k)

pub ends-then : {A B : Type 0} (pre : List ℕ) (p : Take A) (w : A → List ℕ) (Q : A → Type 0) (f : A → Take B) (v : B → List ℕ) (S : B → Type 0) → Ends [] p w Q
    → ((a : A) → Q a → Ends (pre ++ w a) (f a) v S) → Ends pre (p >>= f) v S
ends-then {A} {B} pre p w Q f v S one more bytes rest b small h = go (p bytes) refl h
  where
    go : (o : Option (A × List ℕ)) → p bytes ≡ o → option_and_then (λ r. f r.0 r.1) o ≡ Some (b, rest) → (pre ++ bytes ≡ v b ++ rest) × Small rest × S b
    go None e k = absurd (none-some {X = B × List ℕ} (b, rest) k)
    go (Some (a, r)) e k =
        let x = one bytes r a small e in
        let y = more a x.2 r rest b x.1 k in
        (ap (λ zs. pre ++ zs) x.0 ∙ sym (append_assoc pre (w a) r) ∙ y.0, y.1, y.2)

pub ends-give : {A : Type 0} (pre : List ℕ) (a : A) (v : A → List ℕ) (Q : A → Type 0) → pre ≡ v a → Q a → Ends pre (give a) v Q
ends-give {A} pre a v Q e q bytes rest b small h =
    let k = read-parts a b bytes rest h in
    (ap (λ zs. zs ++ bytes) e ∙ ap (λ c. v c ++ bytes) k.0 ∙ ap (λ zs. v b ++ zs) k.1, subst Small k.1 small, subst Q k.0 q)

pub ends-refuse : {A : Type 0} (pre : List ℕ) (v : A → List ℕ) (Q : A → Type 0) → Ends pre refuse v Q
ends-refuse {A} pre v Q bytes rest b small h = absurd (none-some {X = A × List ℕ} (b, rest) h)

-- ---- numbers and texts

small-take : (n : ℕ) (bytes : List ℕ) → Small bytes → Small (take n bytes)
small-take zero bytes h = tt
small-take (suc n) [] h = tt
small-take (suc n) (b ∷ bytes) h = (h.0, small-take n bytes h.1)

small-drop : (n : ℕ) (bytes : List ℕ) → Small bytes → Small (drop n bytes)
small-drop zero bytes h = h
small-drop (suc n) [] h = tt
small-drop (suc n) (b ∷ bytes) h = small-drop n bytes h.1

joined : (n : ℕ) (bytes : List ℕ) → take n bytes ++ drop n bytes ≡ bytes
joined zero bytes = refl
joined (suc n) [] = refl
joined (suc n) (b ∷ bytes) = ap (λ zs. b ∷ zs) (joined n bytes)

taken : (n : ℕ) (bytes : List ℕ) → n ≤ length bytes → length (take n bytes) ≡ n
taken zero bytes h = refl
taken (suc n) [] h = absurd (omega (arith, h))
taken (suc n) (b ∷ bytes) h = ap suc (taken n bytes (omega (arith, h)))

-- so many bytes
pub spells-some : (n : ℕ) → Ends [] (some_bytes n) (λ t. t) (λ t. (length t ≡ n) × Small t)
spells-some n bytes rest t small h = go (nat_le n (length bytes)) refl h
  where
    go : (b : Bool) → nat_le n (length bytes) ≡ b → cond {A = Option (List ℕ × List ℕ)} b (Some (take n bytes, drop n bytes)) None ≡ Some (t, rest) → (bytes ≡ t ++ rest) × Small rest × ((length t ≡ n) × Small t)
    go true e k =
        let r = read-parts (take n bytes) t (drop n bytes) rest k in (
          sym (joined n bytes) ∙ ap (λ zs. zs ++ drop n bytes) r.0 ∙ ap (λ zs. t ++ zs) r.1,
          subst Small r.1 (small-drop n bytes small),
          (ap length (sym r.0) ∙ taken n bytes (leb-true n (length bytes) e), subst Small r.0 (small-take n bytes small)),
        )
    go false e k = absurd (none-some {X = List ℕ × List ℕ} (t, rest) k)

abbrev value : List ℕ → ℕ
value bytes = fold (λ a b. a * 256 + b) 0 bytes

spells-number : (n : ℕ) (w : ℕ → List ℕ) (Q : ℕ → Type 0) → ((bytes : List ℕ) → length bytes ≡ n → Small bytes → (bytes ≡ w (value bytes)) × Q (value bytes)) → Ends [] (number n) w Q
spells-number n w Q h = ends-then [] (some_bytes n) (λ t. t) (λ t. (length t ≡ n) × Small t) (λ bs. give (value bs)) w Q (spells-some n)
    (λ t k. let r = h t k.0 k.1 in ends-give t (value t) w Q r.0 r.1)

two : {a b c d : ℕ} → a ≡ c → b ≡ d → a ∷ b ∷ [] ≡ c ∷ d ∷ []
two p q = λ i. p i ∷ q i ∷ []

four : {a b c d e f g h : ℕ} → a ≡ e → b ≡ f → c ≡ g → d ≡ h → a ∷ b ∷ c ∷ d ∷ [] ≡ e ∷ f ∷ g ∷ h ∷ []
four p q r s = λ i. p i ∷ q i ∷ r i ∷ s i ∷ []

pub spells-byte : Ends [] (number 1) (λ n. n ∷ []) (λ n. n < 256)
spells-byte = spells-number 1 (λ n. n ∷ []) (λ n. n < 256) go
  where
    go : (bytes : List ℕ) → length bytes ≡ 1 → Small bytes → (bytes ≡ value bytes ∷ []) × (value bytes < 256)
    go [] h s = absurd (omega (arith, h))
    go (x ∷ []) h s = (ap (λ n. n ∷ []) (omega arith), omega (arith, s.0))
    go (x ∷ y ∷ bytes) h s = absurd (omega (arith, h))

pub spells-be16 : Ends [] (number 2) be16 (λ n. n < 65536)
spells-be16 = spells-number 2 be16 (λ n. n < 65536) go
  where
    high : (x y : ℕ) → x < 256 → y < 256 → x ≡ ((0 * 256 + x) * 256 + y) / 256 % 256
    high x y h k = omega arith

    low : (x y : ℕ) → y < 256 → y ≡ ((0 * 256 + x) * 256 + y) % 256
    low x y k = omega arith

    go : (bytes : List ℕ) → length bytes ≡ 2 → Small bytes → (bytes ≡ be16 (value bytes)) × (value bytes < 65536)
    go [] h s = absurd (omega (arith, h))
    go (x ∷ []) h s = absurd (omega (arith, h))
    go (x ∷ y ∷ []) h s = (two (high x y s.0 s.1.0) (low x y s.1.0), omega (arith, s.0, s.1.0))
    go (x ∷ y ∷ z ∷ bytes) h s = absurd (omega (arith, h))

module _ (x y z u : ℕ) (hx : x < 256) (hy : y < 256) (hz : z < 256) (hu : u < 256) where
  first : x ≡ (((((0 * 256 + x) * 256 + y) * 256 + z) * 256 + u) / 65536) / 256 % 256
  first = omega arith

  second : y ≡ (((((0 * 256 + x) * 256 + y) * 256 + z) * 256 + u) / 65536) % 256
  second = omega arith

  third : z ≡ ((((0 * 256 + x) * 256 + y) * 256 + z) * 256 + u) / 256 % 256
  third = omega arith

  fourth : u ≡ ((((0 * 256 + x) * 256 + y) * 256 + z) * 256 + u) % 256
  fourth = omega arith

  below : (((0 * 256 + x) * 256 + y) * 256 + z) * 256 + u < 4294967296
  below = omega arith

pub spells-be32 : Ends [] (number 4) be32 (λ n. n < 4294967296)
spells-be32 = spells-number 4 be32 (λ n. n < 4294967296) go
  where
    go : (bytes : List ℕ) → length bytes ≡ 4 → Small bytes → (bytes ≡ be32 (value bytes)) × (value bytes < 4294967296)
    go [] h s = absurd (omega (arith, h))
    go (x ∷ []) h s = absurd (omega (arith, h))
    go (x ∷ y ∷ []) h s = absurd (omega (arith, h))
    go (x ∷ y ∷ z ∷ []) h s = absurd (omega (arith, h))
    go (x ∷ y ∷ z ∷ u ∷ []) h (a, (b, (c, (d, e)))) = (four (first x y z u a b c d) (second x y z u a b c d) (third x y z u a b c d) (fourth x y z u a b c d), below x y z u a b c d)
    go (x ∷ y ∷ z ∷ u ∷ v ∷ bytes) h s = absurd (omega (arith, h))

pub spells-text : Ends [] text cost.text_bytes Anything
spells-text = ends-then [] (number 1) (λ n. n ∷ []) (λ n. n < 256) some_bytes cost.text_bytes Anything spells-byte (λ n _ bytes rest t small h.
    let r = spells-some n bytes rest t small h in (ap (λ zs. n ∷ zs) r.0 ∙ ap (λ m. m ∷ t ++ rest) (sym r.2.0), r.1, tt))

-- ---- lists

pub spells-times : {A : Type 0} (item : Take A) (w : A → List ℕ) → Ends [] item w Anything → (n : ℕ) → Ends [] (times n item) (flat_map w) (λ xs. length xs ≡ n)
spells-times item w one zero = ends-give [] [] (flat_map w) (λ xs. length xs ≡ 0) refl refl
spells-times item w one (suc n) = ends-then [] item w Anything (λ a. times n item >>= λ as'. give (a ∷ as')) (flat_map w) (λ xs. length xs ≡ suc n) one
    (λ a _. ends-then (w a) (times n item) (flat_map w) (λ xs. length xs ≡ n) (λ as'. give (a ∷ as')) (flat_map w) (λ xs. length xs ≡ suc n) (spells-times item w one n)
    (λ as' k. ends-give (w a ++ flat_map w as') (a ∷ as') (flat_map w) (λ xs. length xs ≡ suc n) refl (ap suc k)))

pub spells-counted : {A : Type 0} (item : Take A) (w : A → List ℕ) → Ends [] item w Anything → Ends [] (counted item) (cost.counted w) Anything
spells-counted item w one = ends-then [] (number 1) (λ n. n ∷ []) (λ n. n < 256) (λ n. times n item) (cost.counted w) Anything spells-byte (λ n _ bytes rest xs small h.
    let r = spells-times item w one n bytes rest xs small h in (ap (λ zs. n ∷ zs) r.0 ∙ ap (λ m. m ∷ flat_map w xs ++ rest) (sym r.2), r.1, tt))

pub spells-path : Ends [] path cost.path_bytes Anything
spells-path = spells-counted text cost.text_bytes spells-text

-- ---- the directory

spells-kind : Ends [] (number 1 >>= kind_of) (λ k. cost.kind_byte k ∷ []) Anything
spells-kind = ends-then [] (number 1) (λ n. n ∷ []) (λ n. n < 256) kind_of (λ k. cost.kind_byte k ∷ []) Anything spells-byte (λ n _. go n)
  where
    go : (n : ℕ) → Ends (n ∷ []) (kind_of n) (λ k. cost.kind_byte k ∷ []) Anything
    go zero = ends-give (0 ∷ []) kind.Text (λ k. cost.kind_byte k ∷ []) Anything refl tt
    go (suc zero) = ends-give (1 ∷ []) kind.Int (λ k. cost.kind_byte k ∷ []) Anything refl tt
    go (suc (suc zero)) = ends-give (2 ∷ []) kind.Char (λ k. cost.kind_byte k ∷ []) Anything refl tt
    go (suc (suc (suc zero))) = ends-give (3 ∷ []) kind.Symbol (λ k. cost.kind_byte k ∷ []) Anything refl tt
    go (suc (suc (suc (suc n)))) = ends-refuse (suc (suc (suc (suc n))) ∷ []) (λ k. cost.kind_byte k ∷ []) Anything

spells-direction : Ends [] (number 1 >>= direction_of) (λ d. cost.direction_byte d ∷ []) Anything
spells-direction = ends-then [] (number 1) (λ n. n ∷ []) (λ n. n < 256) direction_of (λ d. cost.direction_byte d ∷ []) Anything spells-byte (λ n _. go n)
  where
    go : (n : ℕ) → Ends (n ∷ []) (direction_of n) (λ d. cost.direction_byte d ∷ []) Anything
    go zero = ends-give (0 ∷ []) order.Ascend (λ d. cost.direction_byte d ∷ []) Anything refl tt
    go (suc zero) = ends-give (1 ∷ []) order.Descend (λ d. cost.direction_byte d ∷ []) Anything refl tt
    go (suc (suc n)) = ends-refuse (suc (suc n) ∷ []) (λ d. cost.direction_byte d ∷ []) Anything

spells-part : Ends [] part cost.part_bytes Anything
spells-part = ends-then [] (number 1 >>= kind_of) (λ k. cost.kind_byte k ∷ []) Anything _ cost.part_bytes Anything spells-kind (λ k _.
    ends-then (cost.kind_byte k ∷ []) (number 1 >>= direction_of) (λ d. cost.direction_byte d ∷ []) Anything _ cost.part_bytes Anything spells-direction (λ d _.
    ends-then (cost.kind_byte k ∷ cost.direction_byte d ∷ []) path cost.path_bytes Anything _ cost.part_bytes Anything spells-path (λ s _.
    ends-give (cost.kind_byte k ∷ cost.direction_byte d ∷ cost.path_bytes s) (record { path = s; kind = k; direction = d }) cost.part_bytes Anything refl tt)))

spells-table : Ends [] table cost.table_bytes Anything
spells-table = ends-then [] path cost.path_bytes Anything _ cost.table_bytes Anything spells-path (λ p _.
    ends-then (cost.path_bytes p) (counted text) (cost.counted cost.text_bytes) Anything _ cost.table_bytes Anything (spells-counted text cost.text_bytes spells-text) (λ s _.
    ends-give (cost.path_bytes p ++ cost.counted cost.text_bytes s) (record { path = p; symbols = s }) cost.table_bytes Anything refl tt))

module _ (graph_of : List ℕ → Option RawGraph) where
  spells-written : (t : List ℕ) → Ends t (λ bytes. option_map (λ g. (g, bytes)) (written graph_of t)) flat (λ g. flat g ≡ t)
  spells-written t bytes rest g small h = go (written graph_of t) refl h
    where
      go : (o : Option RawGraph) → written graph_of t ≡ o → ◌≡◌ {A = Option (RawGraph × List ℕ)} (option_map (λ k. (k, bytes)) o) (Some (g, rest)) → (t ++ bytes ≡ flat g ++ rest) × Small rest × (flat g ≡ t)
      go None e p = absurd (none-some {X = RawGraph × List ℕ} (g, rest) p)
      go (Some k) e p =
          let r = read-parts k g bytes rest p in
          let text : flat g ≡ t = ap flat (sym r.0) ∙ (written-parts graph_of t k e).1 in
          ((λ i. sym text i ++ r.1 i), subst Small r.1 small, text)

  spells-info : Ends [] (info graph_of) cost.info_bytes Anything
  spells-info = ends-then [] (number 2) be16 (λ n. n < 65536) (graph graph_of) cost.info_bytes Anything spells-be16 (λ n _.
      ends-then (be16 n) (some_bytes n) (λ t. t) (λ t. (length t ≡ n) × Small t) (λ t bytes. option_map (λ g. (g, bytes)) (written graph_of t)) cost.info_bytes Anything (spells-some n)
      (λ t k bytes rest g small h. let r = spells-written t bytes rest g small h in
      (ap (λ zs. zs ++ bytes) (ap (λ zs. be16 n ++ zs) (sym r.2) ∙ ap (λ m. be16 m ++ flat g) (sym k.0 ∙ ap length (sym r.2))) ∙ after g t bytes rest r.2 r.0, r.1, tt)))
    where
      after : (g : RawGraph) (t bytes rest : List ℕ) → flat g ≡ t → t ++ bytes ≡ flat g ++ rest → (be16 (length (flat g)) ++ flat g) ++ bytes ≡ (be16 (length (flat g)) ++ flat g) ++ rest
      after g t bytes rest e h = append_assoc (be16 (length (flat g))) (flat g) bytes ∙ ap (λ zs. be16 (length (flat g)) ++ zs) (ap (λ zs. zs ++ bytes) e ∙ h) ∙ sym (append_assoc (be16 (length (flat g))) (flat g) rest)

  -- the bytes of a tags declaration and an info frame
  abbrev extra : Option TagTable × Option RawGraph → List ℕ
  extra x = cost.extra_bytes x.0 x.1

  spells-extra : Ends [] (number 1 >>= extra_of graph_of) extra Anything
  spells-extra = ends-then [] (number 1) (λ n. n ∷ []) (λ n. n < 256) (extra_of graph_of) extra Anything spells-byte (λ n _. go n)
    where
      go : (n : ℕ) → Ends (n ∷ []) (extra_of graph_of n) extra Anything
      go zero = ends-give (0 ∷ []) (None, None) extra Anything refl tt
      go (suc zero) = ends-then (1 ∷ []) table cost.table_bytes Anything _ extra Anything spells-table (λ t _. ends-give (1 ∷ cost.table_bytes t) (Some t, None) extra Anything refl tt)
      go (suc (suc zero)) = ends-then (2 ∷ []) (info graph_of) cost.info_bytes Anything _ extra Anything spells-info (λ g _. ends-give (2 ∷ cost.info_bytes g) (None, Some g) extra Anything refl tt)
      go (suc (suc (suc zero))) = ends-then (3 ∷ []) table cost.table_bytes Anything _ extra Anything spells-table (λ t _.
          ends-then (3 ∷ cost.table_bytes t) (info graph_of) cost.info_bytes Anything _ extra Anything spells-info (λ g _.
          ends-give (3 ∷ cost.table_bytes t ++ cost.info_bytes g) (Some t, Some g) extra Anything refl tt))
      go (suc (suc (suc (suc n)))) = ends-refuse (suc (suc (suc (suc n))) ∷ []) extra Anything

  spells-soup : Ends [] (soup graph_of) cost.soup_bytes Anything
  spells-soup = ends-then [] text cost.text_bytes Anything _ cost.soup_bytes Anything spells-text (λ name _.
      ends-then (cost.text_bytes name) (number 2) be16 (λ n. n < 65536) _ cost.soup_bytes Anything spells-be16 (λ sig _.
      ends-then (cost.text_bytes name ++ be16 sig) (number 4) be32 (λ n. n < 4294967296) _ cost.soup_bytes Anything spells-be32 (λ next _.
      ends-then (cost.text_bytes name ++ be16 sig ++ be32 next) (counted (counted part)) (cost.counted (cost.counted cost.part_bytes)) Anything _ cost.soup_bytes Anything
      (spells-counted (counted part) (cost.counted cost.part_bytes) (spells-counted part cost.part_bytes spells-part)) (λ specs _.
      ends-then (cost.text_bytes name ++ be16 sig ++ be32 next ++ cost.counted (cost.counted cost.part_bytes) specs) (number 1 >>= extra_of graph_of) extra Anything _ cost.soup_bytes Anything spells-extra (λ x _.
      ends-give (cost.text_bytes name ++ be16 sig ++ be32 next ++ cost.counted (cost.counted cost.part_bytes) specs ++ extra x)
      (record { name = name; sig = sig; next_uid = next; specs = specs; tags = x.0; info = x.1; entries = [] }) cost.soup_bytes Anything refl tt)))))

  spells-directory : Ends [] (directory graph_of) cost.directory_bytes Anything
  spells-directory = ends-then [] text cost.text_bytes Anything _ cost.directory_bytes Anything spells-text (λ name _.
      ends-then (cost.text_bytes name) (number 4) be32 (λ n. n < 4294967296) _ cost.directory_bytes Anything spells-be32 (λ sig _.
      ends-then (cost.text_bytes name ++ be32 sig) (number 2) be16 (λ n. n < 65536) _ cost.directory_bytes Anything spells-be16 (λ next _.
      ends-then (cost.text_bytes name ++ be32 sig ++ be16 next) (counted (soup graph_of)) (cost.counted cost.soup_bytes) Anything _ cost.directory_bytes Anything (spells-counted (soup graph_of) cost.soup_bytes spells-soup) (λ soups _.
      ends-give (cost.text_bytes name ++ be32 sig ++ be16 next ++ cost.counted cost.soup_bytes soups) (record { name = name; sig = sig; next_soup = next; soups = soups }) cost.directory_bytes Anything refl tt))))

append-nil : (xs : List ℕ) → xs ++ [] ≡ xs
append-nil [] = refl
append-nil (x ∷ xs) = ap (λ ys. x ∷ ys) (append-nil xs)

pub whole-parts : {A : Type 0} (p : Take A) (bytes : List ℕ) (a : A) → whole p bytes ≡ Some a → p bytes ≡ Some (a, [])
whole-parts {A} p bytes a h = go (p bytes) h
  where
    go : (o : Option (A × List ℕ)) → whole_of o ≡ Some a → o ≡ Some (a, [])
    go None k = absurd (none-some a k)
    go (Some (b, [])) k = ap {B = Option (A × List ℕ)} (λ c. Some (c, [])) (some-same b a k)
    go (Some (b, x ∷ xs)) k = absurd (none-some a k)

pub spells-whole : {A : Type 0} (p : Take A) (w : A → List ℕ) (Q : A → Type 0) → Ends [] p w Q → (bytes : List ℕ) (a : A) → Small bytes → whole p bytes ≡ Some a → (bytes ≡ w a) × Q a
spells-whole p w Q h bytes a small e = let r = h bytes [] a small (whole-parts p bytes a e) in (r.0 ∙ append-nil (w a), r.2)

pub directory-spelt : (graph_of : List ℕ → Option RawGraph) (bytes : List ℕ) (d : Store) → Small bytes → whole (directory graph_of) bytes ≡ Some d → bytes ≡ cost.directory_bytes d
directory-spelt graph_of bytes d small h = (spells-whole (directory graph_of) cost.directory_bytes Anything (spells-directory graph_of) bytes d small h).0

-- ---- records

abbrev pub large_bytes : LargeRow → List ℕ
large_bytes l = be32 l.0 ++ be32 l.1 ++ be32 l.2

abbrev pub row_bytes : EntryRow → List ℕ
row_bytes row = be16 row.soup ++ be16 (length row.larges) ++ be32 row.uid ++ be32 row.time ++ row.text ++ flat_map large_bytes row.larges

-- the id of an object fits in four bytes
abbrev ObjectFits : LargeRow → Type 0
ObjectFits l = l.1 < 4294967296

spells-large : Ends [] large_row large_bytes ObjectFits
spells-large = ends-then [] (number 4) be32 (λ n. n < 4294967296) _ large_bytes ObjectFits spells-be32 (λ node _.
    ends-then (be32 node) (number 4) be32 (λ n. n < 4294967296) _ large_bytes ObjectFits spells-be32 (λ object fits.
    ends-then (be32 node ++ be32 object) (number 4) be32 (λ n. n < 4294967296) _ large_bytes ObjectFits spells-be32 (λ len _.
    ends-give (be32 node ++ be32 object ++ be32 len) (node, object, len) large_bytes ObjectFits refl fits)))

abbrev AreFit : ℕ → List LargeRow → Type 0
AreFit n ls = (length ls ≡ n) × Each ObjectFits ls

spells-larges : (n : ℕ) → Ends [] (times n large_row) (flat_map large_bytes) (AreFit n)
spells-larges zero = ends-give [] [] (flat_map large_bytes) (AreFit 0) refl (refl, tt)
spells-larges (suc n) = ends-then [] large_row large_bytes ObjectFits (λ l. times n large_row >>= λ ls. give (l ∷ ls)) (flat_map large_bytes) (AreFit (suc n)) spells-large
    (λ l fits. ends-then (large_bytes l) (times n large_row) (flat_map large_bytes) (AreFit n) (λ ls. give (l ∷ ls)) (flat_map large_bytes) (AreFit (suc n)) (spells-larges n)
    (λ ls k. ends-give (large_bytes l ++ flat_map large_bytes ls) (l ∷ ls) (flat_map large_bytes) (AreFit (suc n)) refl (ap suc k.0, (fits, k.1))))

-- the minute, and the ids of objects, fit in four bytes
abbrev Timely : EntryRow → Type 0
Timely row = (row.time < 4294967296) × Each (λ (l : LargeRow). l.1 < 4294967296) row.larges

spells-entry : (size : ℕ) → Ends [] (entry_fields size) row_bytes Timely
spells-entry size = ends-then [] (number 2) be16 (λ n. n < 65536) _ row_bytes Timely spells-be16 (λ soup _.
    ends-then (be16 soup) (number 2) be16 (λ n. n < 65536) _ row_bytes Timely spells-be16 (λ count _.
    ends-then (be16 soup ++ be16 count) (number 4) be32 (λ n. n < 4294967296) _ row_bytes Timely spells-be32 (λ uid _.
    ends-then (be16 soup ++ be16 count ++ be32 uid) (number 4) be32 (λ n. n < 4294967296) _ row_bytes Timely spells-be32 (λ time fits.
    ends-then (be16 soup ++ be16 count ++ be32 uid ++ be32 time) (some_bytes (size - 12 * count)) (λ t. t) (λ t. (length t ≡ size - 12 * count) × Small t) _ row_bytes Timely (spells-some (size - 12 * count)) (λ t _.
    ends-then (be16 soup ++ be16 count ++ be32 uid ++ be32 time ++ t) (times count large_row) (flat_map large_bytes) (AreFit count) _ row_bytes Timely (spells-larges count) (λ ls long.
    ends-give (be16 soup ++ be16 count ++ be32 uid ++ be32 time ++ t ++ flat_map large_bytes ls) (record { soup = soup; uid = uid; time = time; text = t; larges = ls }) row_bytes Timely
    (ap (λ n. be16 soup ++ be16 n ++ be32 uid ++ be32 time ++ t ++ flat_map large_bytes ls) (sym long.0)) (fits, long.1)))))))

-- the bytes of a record are those of its row, whose minute and whose ids of objects fit in four bytes
pub record-spelt : (bytes : List ℕ) (row : EntryRow) → Small bytes → entry_row bytes ≡ Some row
    → (bytes ≡ row_bytes row) × (row.time < 4294967296) × Each (λ (l : LargeRow). l.1 < 4294967296) row.larges
record-spelt bytes row small h = let r = spells-whole (entry_fields (length bytes - 12)) row_bytes Timely (spells-entry (length bytes - 12)) bytes row small h in (r.0, r.1.0, r.1.1)
