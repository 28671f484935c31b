-- Words on the rows of a directory.
use Rattle.std.proofs.Common.{◌≡◌, ℕ, ◌+◌, ◌<◌, ◌≤◌, Bool, true, false, cond, ◌&&◌, ◌==◌, leb, ltb, List, [], ◌∷◌, length, get_or, map, filter, suc, Option, Some, None, refl, ap, sym, subst, ◌∙◌, All, arith}
use Rattle.std.specs.Prelude.{IsTrue, IfSome, nat_le, slice_set}
use Rattle.std.specs.List.{AllByRecursion, list_all, find, position_from}
use Rattle.std.proofs.lemmas.Bool.{and_parts, leb-true, ltb-true}
use Rattle.std.proofs.lemmas.List.Elements.{All-from_recursion}
use Rattle.newt_graph.specs.Graph.{RawGraph}
use Rattle.newt_spec_nsof.specs.Flat.{flat}
use Rattle.newt_base.specs.Names.{is_name, equal_text}
use Rattle.newt_spec_graph.specs.Lists.{rises, all_apart}
use Rattle.newt_spec_store.specs.Store.{Soup, Store, change_first}
use Rattle.newt_spec_store.specs.Valid.{well_formed, valid_soup, valid_spec, valid_tags, valid_info, valid_entry}
use Rattle.newt_spec_store.specs.Keys.{paths_of, same_paths}
use Rattle.newt_soupdir.specs.declared.rows.SoupRow.{SoupRow}
use Rattle.newt_soupdir.specs.declared.rows.Directory.{Directory}
use Rattle.newt_soupdir.specs.Bare.{bare_soup, bare_store, fits}

pub filter_rows : {X Y : Type 0} (test : Y → Bool) (g : X → Y) (xs : List X) → map g (filter (λ x. test (g x)) xs) ≡ filter test (map g xs)
filter_rows test g [] = refl
filter_rows test g (x ∷ xs) = go (test (g x)) (filter_rows test g xs)
  where
    go : (b : Bool) → map g (filter (λ x. test (g x)) xs) ≡ filter test (map g xs) → map g (cond b (x ∷ filter (λ x. test (g x)) xs) (filter (λ x. test (g x)) xs)) ≡ cond b (g x ∷ filter test (map g xs)) (filter test (map g xs))
    go true h = ap (λ ys. g x ∷ ys) h
    go false h = h

-- the parts of what holds of every store
pub well_formed_parts : (s : Store) → well_formed s ≡ true → (is_name s.name ≡ true) × (nat_le s.next_soup 65_535 ≡ true) × (rises 0 s.next_soup (map (λ p. p.sig) s.soups) ≡ true) × (list_all valid_soup s.soups ≡ true)
well_formed_parts s h =
    let a = and_parts (is_name s.name && nat_le s.sig 536_870_911 && nat_le s.next_soup 65_535 && nat_le (length s.soups) 250 && rises 0 s.next_soup (map (λ p. p.sig) s.soups) && all_apart equal_text (map (λ p. p.name) s.soups)) (list_all valid_soup s.soups) h in
    let b = and_parts (is_name s.name && nat_le s.sig 536_870_911 && nat_le s.next_soup 65_535 && nat_le (length s.soups) 250 && rises 0 s.next_soup (map (λ p. p.sig) s.soups)) (all_apart equal_text (map (λ p. p.name) s.soups)) a.0 in
    let c = and_parts (is_name s.name && nat_le s.sig 536_870_911 && nat_le s.next_soup 65_535 && nat_le (length s.soups) 250) (rises 0 s.next_soup (map (λ p. p.sig) s.soups)) b.0 in
    let d = and_parts (is_name s.name && nat_le s.sig 536_870_911 && nat_le s.next_soup 65_535) (nat_le (length s.soups) 250) c.0 in
    let e = and_parts (is_name s.name && nat_le s.sig 536_870_911) (nat_le s.next_soup 65_535) d.0 in
    let f = and_parts (is_name s.name) (nat_le s.sig 536_870_911) e.0 in
    (f.0, e.1, c.1, a.1)

-- the parts of what holds of every soup
pub record HasParts (p : Soup) : Type 0 where
  pub named : is_name p.name ≡ true
  pub next : nat_le p.next_uid 536_870_911 ≡ true
  pub few : nat_le (length p.specs) 16 ≡ true
  pub specs : list_all valid_spec p.specs ≡ true
  pub tags : valid_tags p.tags ≡ true
  pub info : valid_info p.info ≡ true

pub soup_parts : (p : Soup) → valid_soup p ≡ true → HasParts p
soup_parts p h =
    let rising = rises 0 p.next_uid (map (λ e. e.uid) p.entries) in
    let few = nat_le (length p.specs) 16 in
    let specs = list_all valid_spec p.specs in
    let apart = all_apart same_paths (map paths_of p.specs) in
    let o = and_parts (is_name p.name && nat_le p.next_uid 536_870_911 && rising && few && specs && apart && valid_tags p.tags && valid_info p.info) (list_all valid_entry p.entries) h in
    let a = and_parts (is_name p.name && nat_le p.next_uid 536_870_911 && rising && few && specs && apart && valid_tags p.tags) (valid_info p.info) o.0 in
    let b = and_parts (is_name p.name && nat_le p.next_uid 536_870_911 && rising && few && specs && apart) (valid_tags p.tags) a.0 in
    let c = and_parts (is_name p.name && nat_le p.next_uid 536_870_911 && rising && few && specs) apart b.0 in
    let d = and_parts (is_name p.name && nat_le p.next_uid 536_870_911 && rising && few) specs c.0 in
    let e = and_parts (is_name p.name && nat_le p.next_uid 536_870_911 && rising) few d.0 in
    let f = and_parts (is_name p.name && nat_le p.next_uid 536_870_911) rising e.0 in
    let g = and_parts (is_name p.name) (nat_le p.next_uid 536_870_911) f.0 in
    record { named = g.0; next = g.1; few = e.1; specs = d.1; tags = b.1; info = a.1 }

-- the length of an info frame's text fits in two bytes
short_info : (info : Option RawGraph) → valid_info info ≡ true → IfSome info (λ g. length (flat g) < 65536)
short_info None h = tt
short_info (Some g) h = grind (arith, h)

all_fit : (high : ℕ) (rows : List SoupRow) (low : ℕ) → high ≤ 65_535 → rises low high (map (λ p. p.sig) (map bare_soup rows)) ≡ true → list_all valid_soup (map bare_soup rows) ≡ true
    → AllByRecursion fits rows
all_fit high [] low le h v = tt
all_fit high (row ∷ rows) low le h v =
    let a = and_parts (leb low row.sig && ltb row.sig high) (rises (row.sig + 1) high (map (λ p. p.sig) (map bare_soup rows))) h in
    let b = and_parts (leb low row.sig) (ltb row.sig high) a.0 in
    let c = and_parts (valid_soup (bare_soup row)) (list_all valid_soup (map bare_soup rows)) v in
    let lt : row.sig < high = ltb-true row.sig high b.1 in
    let few : length row.specs ≤ 16 = leb-true (length row.specs) 16 (soup_parts (bare_soup row) c.0).few in
    ((omega (arith, lt, le), omega (arith, few), short_info row.info (soup_parts (bare_soup row) c.0).info), all_fit high rows (row.sig + 1) le a.1 c.1)

-- the signatures and the counts of indexes of a well formed directory fit in their bytes
pub rows_fit : (d : Directory) → IsTrue (well_formed (bare_store d)) → All fits d.soups
rows_fit d h =
    let p = well_formed_parts (bare_store d) h in
    All-from_recursion fits d.soups (all_fit d.next_soup d.soups 0 (leb-true d.next_soup 65_535 p.1) p.2 p.3)

pub next_fits : (d : Directory) → IsTrue (well_formed (bare_store d)) → d.next_soup < 65536
next_fits d h = let le : d.next_soup ≤ 65_535 = leb-true d.next_soup 65_535 (well_formed_parts (bare_store d) h).1 in omega (arith, le)

-- ---- the place of a row

some_is : (x y : ℕ) → Option.Some x ≡ Some y → x ≡ y
some_is x y e = cc

some_none : (x : ℕ) → Option.Some x ≡ None → ⊥
some_none x e = cc

-- a row at a place is the one that has the signature, and to change it there is to change that one
pub record IsPlace (sig : ℕ) (rows : List SoupRow) (at : ℕ) (d : SoupRow) : Type 0 where
  pub soup : find (λ p. p.sig == sig) (map bare_soup rows) ≡ Some (bare_soup (get_or rows at d))
  pub changed : (change : Soup → Soup) (new : SoupRow) → bare_soup new ≡ change (bare_soup (get_or rows at d)) → map bare_soup (slice_set rows at new) ≡ change_first (λ p. p.sig == sig) change (map bare_soup rows)

one_later : (sig : ℕ) (row : SoupRow) (rows : List SoupRow) (n : ℕ) (d : SoupRow) → (row.sig == sig) ≡ false → IsPlace sig rows n d → IsPlace sig (row ∷ rows) (suc n) d
one_later sig row rows n d e p = record {
  soup = rw e p.soup;
  changed = λ change new same. rw e (ap (λ (ps : List Soup). bare_soup row ∷ ps) (p.changed change new same));
}

place_from : (sig : ℕ) (rows : List SoupRow) (k at : ℕ) (d : SoupRow) → position_from (λ row. row.sig == sig) k rows ≡ Some at → (n : ℕ) × (at ≡ k + n) × IsPlace sig rows n d
place_from sig [] k at d h = absurd cc
place_from sig (row ∷ rows) k at d h = go (place_from sig rows (k + 1) at d) (row.sig == sig) refl
  where
    go : (position_from (λ row. row.sig == sig) (k + 1) rows ≡ Some at → (n : ℕ) × (at ≡ k + 1 + n) × IsPlace sig rows n d) → (b : Bool) → (row.sig == sig) ≡ b → (n : ℕ) × (at ≡ k + n) × IsPlace sig (row ∷ rows) n d
    go later true e =
        let here : k ≡ at = some_is k at (sym (ap (λ b. cond b (Some k) (position_from (λ row. row.sig == sig) (k + 1) rows)) e) ∙ h) in
        (0, omega (arith, here), record { soup = rw e refl; changed = λ change new same. rw e (ap (λ (p : Soup). p ∷ map bare_soup rows) same) })
    go later false e =
        let there = later (sym (ap (λ b. cond b (Some k) (position_from (λ row. row.sig == sig) (k + 1) rows)) e) ∙ h) in
        (suc there.0, omega (arith, there.1), one_later sig row rows there.0 d e there.2)

pub place_is : (sig : ℕ) (rows : List SoupRow) (at : ℕ) (d : SoupRow) → position_from (λ row. row.sig == sig) 0 rows ≡ Some at → IsPlace sig rows at d
place_is sig rows at d h =
    let p = place_from sig rows 0 at d h in
    let same : p.0 ≡ at = omega (arith, p.1) in
    subst (λ (n : ℕ). IsPlace sig rows n d) same p.2

-- no row has the signature
pub record IsNowhere (sig : ℕ) (rows : List SoupRow) : Type 0 where
  pub soup : find (λ p. p.sig == sig) (map bare_soup rows) ≡ None
  pub same : (change : Soup → Soup) → change_first (λ p. p.sig == sig) change (map bare_soup rows) ≡ map bare_soup rows

pub nowhere : (sig : ℕ) (rows : List SoupRow) (k : ℕ) → position_from (λ row. row.sig == sig) k rows ≡ None → IsNowhere sig rows
nowhere sig [] k h = record { soup = refl; same = λ change. refl }
nowhere sig (row ∷ rows) k h = go (nowhere sig rows (k + 1)) (row.sig == sig) refl
  where
    go : (position_from (λ row. row.sig == sig) (k + 1) rows ≡ None → IsNowhere sig rows) → (b : Bool) → (row.sig == sig) ≡ b → IsNowhere sig (row ∷ rows)
    go later true e = absurd (some_none k (sym (ap (λ b. cond b (Some k) (position_from (λ row. row.sig == sig) (k + 1) rows)) e) ∙ h))
    go later false e =
        let rest = later (sym (ap (λ b. cond b (Some k) (position_from (λ row. row.sig == sig) (k + 1) rows)) e) ∙ h) in
        record { soup = rw e rest.soup; same = λ change. rw e (ap (λ (ps : List Soup). bare_soup row ∷ ps) (rest.same change)) }

-- the bound of a soup that was found
pub within_bound : (o : Option Soup) (p : Soup) → o ≡ Some p → IfSome o (λ p. p.next_uid ≤ 536_870_911) → p.next_uid ≤ 536_870_911
within_bound o p e h = subst (λ (o : Option Soup). IfSome o (λ p. p.next_uid ≤ 536_870_911)) e h

soup_bound : (p : Soup) → valid_soup p ≡ true → p.next_uid ≤ 536_870_911
soup_bound p h = leb-true p.next_uid 536_870_911 (soup_parts p h).next

-- the next entry id of a soup that is found may be taken
pub next_uid_fits : (sig : ℕ) (d : Directory) → IsTrue (well_formed (bare_store d)) → IfSome (find (λ p. p.sig == sig) (map bare_soup d.soups)) (λ p. p.next_uid ≤ 536_870_911)
next_uid_fits sig d h = go (map bare_soup d.soups) (well_formed_parts (bare_store d) h).3
  where
    here : (p : Soup) (rest : Option Soup) (b : Bool) → p.next_uid ≤ 536_870_911 → IfSome rest (λ p. p.next_uid ≤ 536_870_911) → IfSome (cond b (Some p) rest) (λ p. p.next_uid ≤ 536_870_911)
    here p rest true h k = h
    here p rest false h k = k

    go : (ps : List Soup) → list_all valid_soup ps ≡ true → IfSome (find (λ p. p.sig == sig) ps) (λ p. p.next_uid ≤ 536_870_911)
    go [] h = tt
    go (p ∷ ps) h = let v = and_parts (valid_soup p) (list_all valid_soup ps) h in here p (find (λ p. p.sig == sig) ps) (p.sig == sig) (soup_bound p v.0) (go ps v.1)
