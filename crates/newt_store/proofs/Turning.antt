-- How each change leads from one store to another.
use Rattle.std.proofs.Common.{IsTrue, ◌≡◌, ◌≢◌, inl, inr, ℕ, ◌<◌, List, [], ◌∷◌, ◌++◌, map as map_list, length, Some, None, refl, sym, ◌∙◌, ap, subst, ⊎_elim}
use Rattle.std.specs.List.{flat_map}
use Rattle.std.specs.FinMap as map
use Rattle.std.proofs.lemmas.Bool.{cases_eq}
use Rattle.newt_base.specs.Names.{is_name}
use Rattle.newt_base.specs.Text.{be16, be32}
use Rattle.newt_pagebook.proofs.Tests.{some_inj}
use Rattle.newt_spec_image.specs.Objects.{Objects}
use Rattle.newt_spec_graph.specs.Lists.{Among}
use Rattle.newt_spec_graph.proofs.Lists.{none-some}
use Rattle.newt_spec_store.specs.Store.{Soup, Store, soup_named, change_soup, make_soup, drop_soup, remove_entry, soup_of, without_soup}
use Rattle.newt_spec_store.specs.Cost.{directory_bytes, soup_bytes, text_bytes}
use Rattle.newt_spec_store.specs.Laid.{bare, bare_soup}
use Rattle.newt_spec_store.specs.Lies.{Places, LiesIn}
use Rattle.newt_spec_store.specs.Valid.{well_formed}
use Rattle.newt_soupdir.specs.Bare.{bare_store}
use Rattle.newt_soupdir.specs.declared.rows.Directory.{Directory}
use Rattle.newt_laws_changes.specs.Written.{Names}
use Rattle.newt_laws_changes.proofs.Lying.{made_lies, dropped_lies, removed_lies}
use Rattle.newt_laws_changes.proofs.Formed.{made_formed, dropped_formed, removed_formed}
use Rattle.newt_laws_changes.proofs.Bare.{made_bare, dropped_bare, removed_bare}
use Rattle.newt_laws_images.proofs.Made.{map-length}
use Rattle.newt_objects_commit.specs.Names.{names_of}
use Rattle.newt_objects_commit.specs.Places.{place_of}
use Rattle.newt_store_catalog.specs.declared.catalog.Catalog.{Catalog}
use Rattle.newt_store.specs.declared.next.Gone.TheVariants.{Nothing, OneEntry, AllOf}
use Rattle.newt_store.specs.declared.next.Next.{Next}
use Rattle.newt_store.specs.Next.{IsGoing, LosesNames, AreNext, AreNamesNext, Turns}
use Rattle.newt_store_catalog.specs.Stands.{Describes}

-- the bytes of a directory are those of the store without its entries
each-soup : (soups : List Soup) → flat_map soup_bytes (map_list bare_soup soups) ≡ flat_map soup_bytes soups
each-soup [] = refl
each-soup (p ∷ soups) = ap (λ (l : List ℕ). soup_bytes p ++ l) (each-soup soups)

bytes-bare : (s : Store) → directory_bytes (bare s) ≡ directory_bytes s
bytes-bare s = λ i. text_bytes s.name ++ be32 s.sig ++ be16 s.next_soup
    ++ (map-length bare_soup s.soups i ∷ each-soup s.soups i)

pub bytes-of : (directory : Directory) (s : Store) → bare s ≡ bare_store directory → directory_bytes (bare_store directory) ≡ directory_bytes s
bytes-of directory s is = ap directory_bytes (sym is) ∙ bytes-bare s

-- the ids that the memory has as named are those that the records name
module _ (directory : Directory) (place : Places) (names : Names) (old : Objects) (s : Store) (d : Describes directory place names old s) where
  pub is-named : (r o : ℕ) → Among (d.lies.named r) o → Among (names r) o
  is-named r o m = subst (λ (ids : List ℕ). Among ids o) (sym (d.names_are r)) m

  pub named-is : (r o : ℕ) → Among (names r) o → Among (d.lies.named r) o
  named-is r o m = subst (λ (ids : List ℕ). Among ids o) (d.names_are r) m

-- ---- other words in the directory alone

abbrev pub next-alone : Directory → ℕ → Next
next-alone dir a = record { directory = Some dir; entry = None; gone = Nothing; answer = a }

loses-nothing : (dir : Directory) (a : ℕ) (place : Places) (r : ℕ) → LosesNames (next-alone dir a) place r → ⊥
loses-nothing dir a place r (inl (t, u, goes, at)) = goes
loses-nothing dir a place r (inr (e, isnt, same)) = none-some e isnt

goes-nothing : (dir : Directory) (a : ℕ) (place : Places) (names : Names) (o : ℕ) → IsGoing (next-alone dir a) place names o → ⊥
goes-nothing dir a place names o (inl (t, u, goes, at)) = goes
goes-nothing dir a place names o (inr (r, loses, m)) = loses-nothing dir a place r loses

-- all objects but the directory are as they were
pub others-alone : (dir : Directory) (a : ℕ) (place : Places) (names : Names) (old new : Objects) → AreNext (next-alone dir a) place names old new → (o : ℕ) → o ≢ 0 → map.get new o ≡ map.get old o
others-alone dir a place names old new are o ne = are.others o ne (λ e isnt. absurd (none-some e isnt)) (λ e isnt. absurd (none-some e isnt)) (goes-nothing dir a place names o)

-- each record names what it named
pub names-alone : (dir : Directory) (a : ℕ) (place : Places) (old new : Names) → AreNamesNext (next-alone dir a) place old new → (r : ℕ) → new r ≡ old r
names-alone dir a place old new are r = are.others r (loses-nothing dir a place r)

-- a store lies in objects, and its records name these
abbrev pub LiesNamed : Objects → Places → Names → Store → Type 0
LiesNamed objects place names s = (lies : LiesIn objects place s) × ((r : ℕ) → lies.named r ≡ names r)

-- the same by other words for the places, and for the names
pub lies-over : (objects : Objects) (place place' : Places) (names : Names) (s : Store) → place' ≡ place → LiesNamed objects place names s → LiesNamed objects place' names s
lies-over objects place place' names s same w = subst (λ (pl : Places). LiesNamed objects pl names s) (sym same) w

pub names-over : (objects : Objects) (place : Places) (names names' : Names) (s : Store) → ((r : ℕ) → names' r ≡ names r) → LiesNamed objects place names s → LiesNamed objects place names' s
names-over objects place names names' s same w = (w.0, λ r. w.1 r ∙ sym (same r))

pub describes : (directory : Directory) (objects : Objects) (place : Places) (names : Names) (s : Store) → LiesNamed objects place names s → IsTrue (well_formed s) → bare s ≡ bare_store directory → Describes directory place names objects s
describes directory objects place names s w formed is = record { lies = w.0; names_are = λ r. sym (w.1 r); formed = formed; bare_is = is }

module _ (catalog : Catalog) (s : Store) where
  abbrev pub old-place : Places
  old-place = place_of catalog.places

  abbrev pub old-names : Names
  old-names = names_of catalog.names

  -- ---- a soup more

  module _ (name : List ℕ) (dir : Directory) (a : ℕ) (made : bare_store dir ≡ make_soup name (bare_store catalog.directory)) (good : IsTrue (is_name name)) (new : soup_named name s ≡ None) (room : length s.soups < 250) (ids : s.next_soup < 65535) where
    pub turns-made : Turns catalog (next-alone dir a) s (make_soup name s)
    turns-made = record {
      described = λ old now place names d are places named.
          let is : bare (make_soup name s) ≡ bare_store dir = made_bare name s ∙ ap (make_soup name) d.bare_is ∙ sym made in
          let same : place ≡ old-place = λ i t u. places.others t u (λ isnt. isnt) (λ isnt. isnt) i in
          describes dir now place names (make_soup name s)
          (names-over now place d.lies.named names (make_soup name s) (λ r. names-alone dir a old-place old-names names named r ∙ d.names_are r)
          (lies-over now old-place place d.lies.named (make_soup name s) same (made_lies name old now old-place s d.lies (record {
            head_is = are.directory ∙ ap Some (bytes-of dir (make_soup name s) is);
            others = others-alone dir a old-place old-names old now are;
          }))))
          (made_formed name s d.formed good new room ids) is;
      fresh = λ texts d e isnt. absurd (none-some e isnt);
      stays = λ texts d e isnt. absurd (none-some e isnt);
      bare_is = λ texts d. made_bare name s ∙ ap (make_soup name) d.bare_is ∙ sym made;
    }

  module _ (sig : ℕ) (p : Soup) (found : soup_of sig s ≡ Some p) where
    -- ---- a soup less

    module _ (dir : Directory) (a : ℕ) (dropped : bare_store dir ≡ without_soup sig (bare_store catalog.directory)) where
      abbrev pub next-dropped : Next
      next-dropped = record { directory = Some dir; entry = None; gone = AllOf sig; answer = a }

      drop-loses : (r : ℕ) → ((u : ℕ) → old-place sig u ≡ Some r → ⊥) → LosesNames next-dropped old-place r → ⊥
      drop-loses r away (inl (t, u, goes, at)) = away u (ap (λ (n : ℕ). old-place n u) goes ∙ at)
      drop-loses r away (inr (e, isnt, same)) = none-some e isnt

      drop-goes : (old : Objects) (d : Describes catalog.directory old-place old-names old s) (o : ℕ) → ((u : ℕ) → old-place sig u ≡ Some o → ⊥) → ((u r : ℕ) → old-place sig u ≡ Some r → Among (d.lies.named r) o → ⊥)
          → IsGoing next-dropped old-place old-names o → ⊥
      drop-goes old d o away unnamed (inl (t, u, goes, at)) = away u (ap (λ (n : ℕ). old-place n u) goes ∙ at)
      drop-goes old d o away unnamed (inr (r, loses, m)) = drop-loses r (λ u at. unnamed u r at (named-is catalog.directory old-place old-names old s d r o m)) loses

      pub turns-dropped : Turns catalog next-dropped s (drop_soup p.name s)
      turns-dropped = record {
        described = λ old now place names d are places named.
            let t : Store = drop_soup p.name s in
            let is : bare t ≡ bare_store dir = dropped_bare s sig p d.formed found ∙ ap (without_soup sig) d.bare_is ∙ sym dropped in
            describes dir now place names t
            (dropped_lies sig old now old-place place names s p d.lies d.formed found (record {
              head_is = are.directory ∙ ap Some (bytes-of dir t is);
              are_gone = λ u id at. are.gone id (inl (sig, u, refl, at));
              names_are_gone = λ u id o at m. are.gone o (inr (id, inl (sig, u, refl, at), is-named catalog.directory old-place old-names old s d id o m));
              others = λ o ne away unnamed. are.others o ne (λ e isnt. absurd (none-some e isnt)) (λ e isnt. absurd (none-some e isnt)) (drop-goes old d o away unnamed);
              not_placed = λ u. places.gone sig u refl;
              other_places = λ t u ne. places.others t u (λ isnt. isnt) (λ goes. ne (sym goes));
              no_names = λ u id at. named.gone id (sig, u, refl, at);
              other_names = λ r away. named.others r (drop-loses r away) ∙ d.names_are r;
            }))
            (dropped_formed p.name s d.formed) is;
        fresh = λ texts d e isnt. absurd (none-some e isnt);
        stays = λ texts d e isnt. absurd (none-some e isnt);
        bare_is = λ texts d. dropped_bare s sig p d.formed found ∙ ap (without_soup sig) d.bare_is ∙ sym dropped;
      }

    -- ---- an entry less

    module _ (uid id a : ℕ) (at : old-place sig uid ≡ Some id) where
      abbrev pub next-removed : Next
      next-removed = record { directory = None; entry = None; gone = OneEntry sig uid; answer = a }

      remove-loses : (r : ℕ) → r ≢ id → LosesNames next-removed old-place r → ⊥
      remove-loses r ne (inl (t, u, goes, there)) = ne (some_inj r id (sym there ∙ ap (λ (n : ℕ). old-place n u) (sym goes.0) ∙ ap (old-place sig) (sym goes.1) ∙ at))
      remove-loses r ne (inr (e, isnt, eq)) = none-some e isnt

      remove-goes : (old : Objects) (d : Describes catalog.directory old-place old-names old s) (o : ℕ) → o ≢ id → (Among (d.lies.named id) o → ⊥) → IsGoing next-removed old-place old-names o → ⊥
      remove-goes old d o ne unnamed (inl gone) = remove-loses o ne (inl gone)
      remove-goes old d o ne unnamed (inr (r, loses, m)) =
          remove-loses r (λ eq. unnamed (subst (λ (n : ℕ). Among (d.lies.named n) o) eq (named-is catalog.directory old-place old-names old s d r o m))) loses

      pub turns-removed : Turns catalog next-removed s (change_soup p.name (remove_entry uid) s)
      turns-removed = record {
        described = λ old now place names d are places named.
            let t : Store = change_soup p.name (remove_entry uid) s in
            describes catalog.directory now place names t
            (removed_lies sig uid id old now old-place place names s p d.lies d.formed found (record {
              was_placed = at;
              is_gone = are.gone id (inl (sig, uid, (refl, refl), at));
              are_gone = λ o m. are.gone o (inr (id, inl (sig, uid, (refl, refl), at), is-named catalog.directory old-place old-names old s d id o m));
              others = λ o ne unnamed. others old now d are o ne unnamed;
              not_placed = places.gone sig uid (refl, refl);
              other_places = λ t u apart. places.others t u (λ isnt. isnt) (λ goes. apart (sym goes.0) (sym goes.1));
              names_are = record {
                names_it = named.gone id (sig, uid, (refl, refl), at);
                other_names = λ r ne. named.others r (remove-loses r ne) ∙ d.names_are r;
              };
            }))
            (removed_formed p.name uid s d.formed) (removed_bare p.name uid s ∙ d.bare_is);
        fresh = λ texts d e isnt. absurd (none-some e isnt);
        stays = λ texts d e isnt. absurd (none-some e isnt);
        bare_is = λ texts d. removed_bare p.name uid s ∙ d.bare_is;
      } where
        others : (old now : Objects) (d : Describes catalog.directory old-place old-names old s) → AreNext next-removed old-place old-names old now
            → (o : ℕ) → o ≢ id → (Among (d.lies.named id) o → ⊥) → map.get now o ≡ map.get old o
        others old now d are o ne unnamed = ⊎_elim
            (λ (z : o ≡ 0). ap (map.get now) z ∙ are.directory ∙ ap (map.get old) (sym z))
            (λ (nz : o ≢ 0). are.others o nz (λ e isnt. absurd (none-some e isnt)) (λ e isnt. absurd (none-some e isnt)) (remove-goes old d o ne unnamed))
            (cases_eq o 0)
