-- What is spelled fits: its counts and lengths are below 256.
use Rattle.std.proofs.Common.{◌≡◌, ℕ, ◌+◌, ◌<◌, ◌≤◌, true, ◌&&◌, List, [], ◌∷◌, ◌++◌, length, take, map, Some, refl, sym, ap, ◌∙◌, All, arith}
use Rattle.std.specs.Prelude.{IsTrue, nat_le}
use Rattle.std.specs.List.{flat_map, list_all}
use Rattle.std.proofs.lemmas.Bool.{and_parts, leb-true}
use Rattle.std.proofs.lemmas.List.Elements.{All-nil, All-cons}
use Rattle.std.proofs.lemmas.List.{take_all}
use Rattle.newt_base.specs.Names.{is_word, begins_name, is_identifier, same_name}
use Rattle.newt_graph.specs.Graph.{IsName}
use Rattle.newt_path.specs.Names.{IsPath}
use Rattle.newt_spec_graph.specs.Lists.{all_apart}
use Rattle.newt_spec_store.specs.Store.{TagTable}
use Rattle.newt_spec_store.specs.Keys.{IndexSpec}
use Rattle.newt_spec_store.specs.Cost.{counted}
use Rattle.newt_spec_store.specs.Valid.{valid_path, valid_spec, valid_tags}

flat_map-map : {X Y Z : Type 0} (f : Y → List Z) (g : X → Y) (xs : List X) → flat_map f (map g xs) ≡ flat_map (λ x. f (g x)) xs
flat_map-map f g [] = refl
flat_map-map f g (x ∷ xs) = ap (λ zs. f (g x) ++ zs) (flat_map-map f g xs)

pub length_rows : {X Y : Type 0} (g : X → Y) (xs : List X) → length (map g xs) ≡ length xs
length_rows g [] = refl
length_rows g (x ∷ xs) = grind (arith, length_rows g xs)

-- things that were spelled one after another, seen by view
pub spelled : {X Y : Type 0} (view : X → Y) (bytes : Y → List ℕ) (out start : List ℕ) (xs : List X) (i : ℕ) → length xs ≤ i
    → out ≡ start ++ (length xs ∷ flat_map (λ x. bytes (view x)) (take i xs)) → out ≡ start ++ counted bytes (map view xs)
spelled {X} view bytes out start xs i le h =
    h ∙ ap (λ (ys : List X). start ++ (length xs ∷ flat_map (λ x. bytes (view x)) ys)) (take_all i xs le)
    ∙ ap (λ (n : ℕ). start ++ (n ∷ flat_map (λ x. bytes (view x)) xs)) (sym (length_rows view xs))
    ∙ ap (λ (bs : List ℕ). start ++ (length (map view xs) ∷ bs)) (sym (flat_map-map bytes view xs))

-- ---- what fits

pub path_few : (path : List (List ℕ)) → IsPath path → length path < 256
path_few path is = omega (arith, is.few)

short_name : (name : List ℕ) → IsName name → length name < 256
short_name name is = omega (arith, is.few)

pub path_short : (path : List (List ℕ)) → IsPath path → All (λ name. length name < 256) path
path_short path is = λ k d lt. short_name _ (is.each k d lt)

short_symbols : (symbols : List (List ℕ)) → list_all is_identifier symbols ≡ true → All (λ name. length name < 256) symbols
short_symbols [] e = All-nil (λ name. length name < 256)
short_symbols (s ∷ ss) e =
    let p = and_parts (is_identifier s) (list_all is_identifier ss) e in
    let q = and_parts (begins_name s && list_all is_word s) (nat_le (length s) 254) p.0 in
    let most = leb-true (length s) 254 q.1 in
    All-cons (λ name. length name < 256) s ss (omega (arith, most)) (short_symbols ss p.1)

pub record HasShortSymbols (t : TagTable) : Type 0 where
  pub path : valid_path t.path ≡ true
  pub few : length t.symbols < 256
  pub short : All (λ name. length name < 256) t.symbols

pub table_fits : (t : TagTable) → IsTrue (valid_tags (Some t)) → HasShortSymbols t
table_fits t e =
    let a = and_parts (valid_path t.path && nat_le (length t.symbols) 64 && list_all is_identifier t.symbols) (all_apart same_name t.symbols) e in
    let b = and_parts (valid_path t.path && nat_le (length t.symbols) 64) (list_all is_identifier t.symbols) a.0 in
    let c = and_parts (valid_path t.path) (nat_le (length t.symbols) 64) b.0 in
    let most = leb-true (length t.symbols) 64 c.1 in
    record { path = c.0; few = omega (arith, most); short = short_symbols t.symbols b.1 }

pub parts_few : (spec : IndexSpec) → IsTrue (valid_spec spec) → length spec < 256
parts_few spec e =
    let a = and_parts (nat_le 1 (length spec) && nat_le (length spec) 4) (list_all (λ p. valid_path p.path) spec) e in
    let b = and_parts (nat_le 1 (length spec)) (nat_le (length spec) 4) a.0 in
    let most = leb-true (length spec) 4 b.1 in
    omega (arith, most)
