-- Rows and directories: the program's readers give what the store's give, where that is well formed.
use Rattle.std.proofs.Common.{◌≡◌, ℕ, Bool, true, false, cond, ◌&&◌, List, [], ◌∷◌, map, Option, Some, None, option_map, Result, Ok, Err, refl, sym, ap, subst, ◌∙◌}
use Rattle.std.specs.Prelude.{IfOk, IsErrOf}
use Rattle.std.specs.List.{list_all}
use Rattle.std.proofs.lemmas.Bool.{and_parts}
use Rattle.newt_nsof_flat.specs.Stream.{stream_graph}
use Rattle.newt_base.specs.Names.{is_name}
use Rattle.newt_spec_store.specs.Store.{TagTable, Soup, Store}
use Rattle.newt_spec_store.specs.Keys.{IndexSpec}
use Rattle.newt_spec_store.specs.Lies.{directory_read}
use Rattle.newt_spec_store.specs.StoreOf.{only}
use Rattle.newt_spec_store.specs.Reading.{Take, ◌>>=◌, give, number, times, counted, whole, text, part, extra_of, soup, directory}
use Rattle.newt_spec_store.specs.Valid.{well_formed, keeps_version, valid_soup, valid_spec, valid_tags}
use Rattle.newt_soupdir.specs.declared.fault.DirFault.{DirFault}
use Rattle.newt_soupdir.specs.declared.fault.DirFault.TheVariants.{Bad, Memory}
use Rattle.newt_soupdir.specs.declared.rows.SoupRow.{SoupRow}
use Rattle.newt_soupdir.specs.declared.rows.Directory.{Directory}
use Rattle.newt_soupdir.specs.Bare.{bare_soup, bare_store}
use Rattle.newt_soupdir.specs.Reading.{Gives, byte_at, number16_at, number32_at, text_at, name_at, specs_at, extra_at, soup_at, soups_at, rows_at, directory_at}
use Rattle.newt_soupdir.proofs.Lists.{well_formed_parts, soup_parts}
use Rattle.newt_soupdir.proofs.Sifting.{Sifts, next, bind, never, times-sifts, whole-sifts, tested, none_some, some_none, some_is}
use Rattle.newt_soupdir.proofs.Declared.{Extra, valid_extra, specs-sifts, extra-sifts}

-- ---- names

name-sifts : (bytes : List ℕ) → Sifts (λ (t : List ℕ). t) is_name (name_at bytes) (text bytes)
unfolding name_at text_at byte_at
name-sifts bytes = tested is_name (text bytes)

-- ---- a soup

-- a soup has a name of the form of names, and valid declarations
abbrev sound_soup : Soup → Bool
sound_soup p = is_name p.name && list_all valid_spec p.specs && valid_tags p.tags

abbrev mine_row : List ℕ → ℕ → ℕ → List IndexSpec → Extra → SoupRow
mine_row name sig next_uid specs x = record { name = name; sig = sig; next_uid = next_uid; specs = specs; tags = x.0; info = x.1 }

abbrev theirs_soup : List ℕ → ℕ → ℕ → List IndexSpec → Extra → Soup
theirs_soup name sig next_uid specs x = record { name = name; sig = sig; next_uid = next_uid; specs = specs; tags = x.0; info = x.1; entries = [] }

-- the two readers from each field on
abbrev mine_extra : List ℕ → ℕ → ℕ → List IndexSpec → Take SoupRow
mine_extra name sig next_uid specs = extra_at >>= λ x. give (mine_row name sig next_uid specs x)

abbrev theirs_extra : List ℕ → ℕ → ℕ → List IndexSpec → Take Soup
theirs_extra name sig next_uid specs = number 1 >>= extra_of stream_graph >>= λ x. give (theirs_soup name sig next_uid specs x)

abbrev mine_specs : List ℕ → ℕ → ℕ → Take SoupRow
mine_specs name sig next_uid = specs_at >>= mine_extra name sig next_uid

abbrev theirs_specs : List ℕ → ℕ → ℕ → Take Soup
theirs_specs name sig next_uid = counted (counted part) >>= theirs_extra name sig next_uid

abbrev mine_next : List ℕ → ℕ → Take SoupRow
mine_next name sig = number 4 >>= mine_specs name sig

abbrev theirs_next : List ℕ → ℕ → Take Soup
theirs_next name sig = number 4 >>= theirs_specs name sig

abbrev mine_sig : List ℕ → Take SoupRow
mine_sig name = number 2 >>= mine_next name

abbrev theirs_sig : List ℕ → Take Soup
theirs_sig name = number 2 >>= theirs_next name

soup-sifts : (bytes : List ℕ) → Sifts bare_soup sound_soup (soup_at bytes) (soup stream_graph bytes)
unfolding soup_at number16_at number32_at
soup-sifts bytes =
    bind (λ (t : List ℕ). t) is_name bare_soup sound_soup (name_at bytes) (text bytes) (λ t. mine_sig t.0 t.1) (λ t. theirs_sig t.0 t.1) (name-sifts bytes)
    (λ t named. next bare_soup sound_soup (number 2 t.1) (λ s. mine_next t.0 s.0 s.1) (λ s. theirs_next t.0 s.0 s.1)
    (λ s. next bare_soup sound_soup (number 4 s.1) (λ u. mine_specs t.0 s.0 u.0 u.1) (λ u. theirs_specs t.0 s.0 u.0 u.1)
    (λ u. bind (λ (ss : List IndexSpec). ss) (list_all valid_spec) bare_soup sound_soup (specs_at u.1) (counted (counted part) u.1) (λ ss. mine_extra t.0 s.0 u.0 ss.0 ss.1) (λ ss. theirs_extra t.0 s.0 u.0 ss.0 ss.1) (specs-sifts u.1)
    (λ ss fit. bind (λ (x : Extra). x) valid_extra bare_soup sound_soup (extra_at ss.1) ((number 1 >>= extra_of stream_graph) ss.1) (λ g. Some (mine_row t.0 s.0 u.0 ss.0 g.0, g.1)) (λ g. Some (theirs_soup t.0 s.0 u.0 ss.0 g.0, g.1)) (extra-sifts ss.1)
    (λ g tagged. rw (named, fit, tagged) refl) (λ g mistagged. rw (named, fit, mistagged) refl))
    (λ ss unfit. never sound_soup ((number 1 >>= extra_of stream_graph) ss.1) (λ g. Some (theirs_soup t.0 s.0 u.0 ss.0 g.0, g.1)) (λ g. rw (named, unfit) refl)))))
    (λ t unnamed. never sound_soup (number 2 t.1) (λ s. theirs_next t.0 s.0 s.1)
    (λ s. never sound_soup (number 4 s.1) (λ u. theirs_specs t.0 s.0 u.0 u.1)
    (λ u. never sound_soup (counted (counted part) u.1) (λ ss. theirs_extra t.0 s.0 u.0 ss.0 ss.1)
    (λ ss. never sound_soup ((number 1 >>= extra_of stream_graph) ss.1) (λ g. Some (theirs_soup t.0 s.0 u.0 ss.0 g.0, g.1)) (λ g. rw unnamed refl)))))

-- ---- the directory

abbrev sound_soups : List Soup → Bool
sound_soups = list_all sound_soup

soups-sifts : (bytes : List ℕ) → Sifts (map bare_soup) sound_soups (soups_at bytes) (counted (soup stream_graph) bytes)
unfolding soups_at byte_at
soups-sifts bytes = next (map bare_soup) sound_soups (number 1 bytes) (λ n. times n.0 soup_at n.1) (λ n. times n.0 (soup stream_graph) n.1) (λ n. times-sifts bare_soup sound_soup soup_at (soup stream_graph) soup-sifts n.0 n.1)

abbrev sound_rows : Store → Bool
sound_rows s = is_name s.name && sound_soups s.soups

abbrev mine_directory : List ℕ → ℕ → ℕ → List SoupRow → Directory
mine_directory name sig next_soup soups = record { name = name; sig = sig; next_soup = next_soup; soups = soups }

abbrev theirs_store : List ℕ → ℕ → ℕ → List Soup → Store
theirs_store name sig next_soup soups = record { name = name; sig = sig; next_soup = next_soup; soups = soups }

-- the two readers from each field on
abbrev mine_soups : List ℕ → ℕ → ℕ → Take Directory
mine_soups name sig next_soup = soups_at >>= λ soups. give (mine_directory name sig next_soup soups)

abbrev theirs_soups : List ℕ → ℕ → ℕ → Take Store
theirs_soups name sig next_soup = counted (soup stream_graph) >>= λ soups. give (theirs_store name sig next_soup soups)

abbrev mine_next_soup : List ℕ → ℕ → Take Directory
mine_next_soup name sig = number 2 >>= mine_soups name sig

abbrev theirs_next_soup : List ℕ → ℕ → Take Store
theirs_next_soup name sig = number 2 >>= theirs_soups name sig

abbrev mine_store_sig : List ℕ → Take Directory
mine_store_sig name = number 4 >>= mine_next_soup name

abbrev theirs_store_sig : List ℕ → Take Store
theirs_store_sig name = number 4 >>= theirs_next_soup name

rows-sifts : (bytes : List ℕ) → Sifts bare_store sound_rows (rows_at bytes) (directory stream_graph bytes)
unfolding rows_at number16_at number32_at
rows-sifts bytes =
    bind (λ (t : List ℕ). t) is_name bare_store sound_rows (name_at bytes) (text bytes) (λ t. mine_store_sig t.0 t.1) (λ t. theirs_store_sig t.0 t.1) (name-sifts bytes)
    (λ t named. next bare_store sound_rows (number 4 t.1) (λ s. mine_next_soup t.0 s.0 s.1) (λ s. theirs_next_soup t.0 s.0 s.1)
    (λ s. next bare_store sound_rows (number 2 s.1) (λ u. mine_soups t.0 s.0 u.0 u.1) (λ u. theirs_soups t.0 s.0 u.0 u.1)
    (λ u. bind (map bare_soup) sound_soups bare_store sound_rows (soups_at u.1) (counted (soup stream_graph) u.1) (λ ps. Some (mine_directory t.0 s.0 u.0 ps.0, ps.1)) (λ ps. Some (theirs_store t.0 s.0 u.0 ps.0, ps.1)) (soups-sifts u.1)
    (λ ps sound. rw (named, sound) refl) (λ ps unsound. rw (named, unsound) refl))))
    (λ t unnamed. never sound_rows (number 4 t.1) (λ s. theirs_next_soup t.0 s.0 s.1)
    (λ s. never sound_rows (number 2 s.1) (λ u. theirs_soups t.0 s.0 u.0 u.1)
    (λ u. never sound_rows (counted (soup stream_graph) u.1) (λ ps. Some (theirs_store t.0 s.0 u.0 ps.0, ps.1)) (λ ps. rw unnamed refl))))

soups_sound : (ps : List Soup) → list_all valid_soup ps ≡ true → sound_soups ps ≡ true
soups_sound [] h = refl
soups_sound (p ∷ ps) h =
    let v = and_parts (valid_soup p) (list_all valid_soup ps) h in
    let w = soup_parts p v.0 in
    rw (w.named, w.specs, w.tags, soups_sound ps v.1) refl

sound_from : (s : Store) → well_formed s ≡ true → sound_rows s ≡ true
sound_from s h = let p = well_formed_parts s h in rw (p.0, soups_sound s.soups p.3) refl

-- a test that only sound stores pass
narrow : (test : Store → Bool) → ((s : Store) → test s ≡ true → sound_rows s ≡ true) → (m : Option Directory) (t : Option Store)
    → option_map bare_store m ≡ only sound_rows t → option_map bare_store (only (λ d. test (bare_store d)) m) ≡ only test t
narrow test sound None None e = refl
narrow test sound None (Some s) e = each (test s) refl
  where
    each : (v : Bool) → test s ≡ v → None ≡ only test (Some s)
    each false h = rw h refl
    each true h = absurd (none_some s (e ∙ ap (λ v. cond v (Some s) None) (sound s h)))
narrow test sound (Some d) None e = absurd (some_none (bare_store d) e)
narrow test sound (Some d) (Some s) e = each (sound_rows s) refl
  where
    same : (v : Bool) → test (bare_store d) ≡ v → option_map bare_store (only (λ d. test (bare_store d)) (Some d)) ≡ only test (Some (bare_store d))
    same true h = rw h refl
    same false h = rw h refl

    each : (v : Bool) → sound_rows s ≡ v → option_map bare_store (only (λ d. test (bare_store d)) (Some d)) ≡ only test (Some s)
    each false h = absurd (some_none (bare_store d) (e ∙ ap (λ v. cond v (Some s) None) h))
    each true h = subst (λ (x : Store). option_map bare_store (only (λ d. test (bare_store d)) (Some d)) ≡ only test (Some x)) (some_is (bare_store d) s (e ∙ ap (λ v. cond v (Some s) None) h)) (same (test (bare_store d)) refl)

-- two tests, one after the other, are one
two_tests : {X : Type 0} (first second : X → Bool) (o : Option X) → only second (only first o) ≡ only (λ x. first x && second x) o
two_tests first second None = refl
two_tests first second (Some x) = each (first x) refl
  where
    each : (v : Bool) → first x ≡ v → only second (only first (Some x)) ≡ only (λ x. first x && second x) (Some x)
    each true h = rw h refl
    each false h = rw h refl

-- what the program reads is what the store's reading gives
pub directory-is : (version : ℕ) (bytes : List ℕ) → option_map bare_store (directory_at version bytes) ≡ directory_read stream_graph version bytes
unfolding directory_at
directory-is version bytes =
    ap (option_map bare_store) (two_tests (λ (d : Directory). keeps_version version (bare_store d)) (λ d. well_formed (bare_store d)) (whole rows_at bytes))
    ∙ narrow (λ s. keeps_version version s && well_formed s) (λ s h. sound_from s (and_parts (keeps_version version s) (well_formed s) h).1) (whole rows_at bytes) (whole (directory stream_graph) bytes)
    (whole-sifts bare_store sound_rows (rows_at bytes) (directory stream_graph bytes) (rows-sifts bytes))
    ∙ sym (two_tests (keeps_version version) well_formed (whole (directory stream_graph) bytes))

pub is_found : (version : ℕ) (bytes : List ℕ) (r : Result Directory DirFault) → Gives (λ d. d) r (directory_at version bytes) → IfOk r (λ d. directory_read stream_graph version bytes ≡ Some (bare_store d))
is_found version bytes (Ok d) given = sym (directory-is version bytes) ∙ ap (option_map bare_store) given
is_found version bytes (Err e) given = tt

pub is_bad : (version : ℕ) (bytes : List ℕ) (r : Result Directory DirFault) → Gives (λ d. d) r (directory_at version bytes) → IsErrOf r Bad → directory_read stream_graph version bytes ≡ None
is_bad version bytes (Ok x) given bad = cc
is_bad version bytes (Err Bad) given bad = sym (directory-is version bytes) ∙ ap (option_map bare_store) given
is_bad version bytes (Err Memory) given bad = absurd cc
