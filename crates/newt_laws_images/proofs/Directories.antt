-- A directory that is read has no entries, and its info frames are read from texts; what it has to keep of its version.
use Rattle.std.proofs.Common.{◌≡◌, refl, ap, sym, subst, ℕ, zero, suc, List, [], ◌∷◌, true, Option, Some, None, option_and_then, option_map, map}
use Rattle.newt_graph.specs.Graph.{RawGraph}
use Rattle.newt_spec_graph.specs.Lists.{Each, Among}
use Rattle.newt_spec_graph.proofs.Lists.{each-at, some-same, none-some}
use Rattle.newt_spec_store.specs.Laid.{bare, bare_soup}
use Rattle.newt_spec_store.specs.Lies.{directory_read}
use Rattle.newt_spec_store.specs.Reading.{Take, ◌>>=◌, give, refuse, some_bytes, text, number, counted, part, table, written, graph, info, extra_of, times, soup, whole, directory}
use Rattle.newt_spec_store.specs.Store.{TagTable, Soup, Store}
use Rattle.newt_spec_store.specs.StoreOf.{only}
use Rattle.newt_spec_store.specs.Valid.{keeps_version, well_formed}
use Rattle.newt_laws_images.proofs.Rows.{only-parts}
use Rattle.newt_laws_images.proofs.Spelt.{whole-parts, read-parts}
use Rattle.newt_laws_images.proofs.Texts.{written-parts}

-- ---- what a reading gives

abbrev Gives : {A : Type 0} → Take A → (A → Type 0) → Type 0
Gives {A} p Q = (bytes rest : List ℕ) (a : A) → p bytes ≡ Some (a, rest) → Q a

gives-then : {A B : Type 0} (p : Take A) (Q : A → Type 0) (f : A → Take B) (S : B → Type 0) → Gives p Q → ((a : A) → Q a → Gives (f a) S) → Gives (p >>= f) S
gives-then {A} {B} p Q f S one more bytes rest b h = go (p bytes) refl h
  where
    go : (o : Option (A × List ℕ)) → p bytes ≡ o → option_and_then (λ r. f r.0 r.1) o ≡ Some (b, rest) → S b
    go None e k = absurd (none-some {X = B × List ℕ} (b, rest) k)
    go (Some (a, r)) e k = more a (one bytes r a e) r rest b k

gives-give : {A : Type 0} (a : A) (Q : A → Type 0) → Q a → Gives (give a) Q
gives-give {A} a Q q bytes rest b h = subst Q (ap {A = A × List ℕ} (λ p. p.0) (some-same {X = A × List ℕ} (a, bytes) (b, rest) h)) q

gives-refuse : {A : Type 0} (Q : A → Type 0) → Gives refuse Q
gives-refuse {A} Q bytes rest b h = absurd (none-some {X = A × List ℕ} (b, rest) h)

abbrev Whatever : {A : Type 0} → A → Type 0
Whatever a = Unit {0}

gives-any : {A : Type 0} (p : Take A) → Gives p Whatever
gives-any p bytes rest a h = tt

gives-times : {A : Type 0} (item : Take A) (Q : A → Type 0) → Gives item Q → (n : ℕ) → Gives (times n item) (Each Q)
gives-times item Q one zero = gives-give [] (Each Q) tt
gives-times item Q one (suc n) = gives-then item Q (λ a. times n item >>= λ as'. give (a ∷ as')) (Each Q) one
    (λ a q. gives-then (times n item) (Each Q) (λ as'. give (a ∷ as')) (Each Q) (gives-times item Q one n) (λ as' k. gives-give (a ∷ as') (Each Q) (q, k)))

-- ---- the directory

module _ (graph_of : List ℕ → Option RawGraph) where
  -- a graph that is read from a text
  abbrev pub IsRead : RawGraph → Type 0
  IsRead g = (text : List ℕ) × (graph_of text ≡ Some g)

  abbrev IfRead : Option RawGraph → Type 0
  IfRead o = (g : RawGraph) → o ≡ Some g → IsRead g

  gives-written : (t : List ℕ) → Gives (λ bytes. option_map (λ g. (g, bytes)) (written graph_of t)) IsRead
  gives-written t bytes rest g h = go (written graph_of t) refl h
    where
      go : (o : Option RawGraph) → written graph_of t ≡ o → ◌≡◌ {A = Option (RawGraph × List ℕ)} (option_map (λ k. (k, bytes)) o) (Some (g, rest)) → IsRead g
      go None e k = absurd (none-some {X = RawGraph × List ℕ} (g, rest) k)
      go (Some k) e p = subst IsRead (read-parts k g bytes rest p).0 (t, (written-parts graph_of t k e).0)

  gives-info : Gives (info graph_of) IsRead
  gives-info = gives-then (number 2) Whatever (graph graph_of) IsRead (gives-any (number 2))
      (λ n _. gives-then (some_bytes n) Whatever (λ t bytes. option_map (λ g. (g, bytes)) (written graph_of t)) IsRead (gives-any (some_bytes n)) (λ t _. gives-written t))

  abbrev HasRead : Option TagTable × Option RawGraph → Type 0
  HasRead x = IfRead x.1

  no-info : IfRead None
  no-info g h = absurd (none-some g h)

  an-info : (k : RawGraph) → IsRead k → IfRead (Some k)
  an-info k r g h = subst IsRead (some-same k g h) r

  gives-extra : (n : ℕ) → Gives (extra_of graph_of n) HasRead
  gives-extra zero = gives-give (None, None) HasRead no-info
  gives-extra (suc zero) = gives-then table Whatever _ HasRead (gives-any table) (λ t _. gives-give (Some t, None) HasRead no-info)
  gives-extra (suc (suc zero)) = gives-then (info graph_of) IsRead _ HasRead gives-info (λ g r. gives-give (None, Some g) HasRead (an-info g r))
  gives-extra (suc (suc (suc zero))) = gives-then table Whatever _ HasRead (gives-any table)
      (λ t _. gives-then (info graph_of) IsRead _ HasRead gives-info (λ g r. gives-give (Some t, Some g) HasRead (an-info g r)))
  gives-extra (suc (suc (suc (suc n)))) = gives-refuse HasRead

  abbrev Plain : Soup → Type 0
  Plain p = (p.entries ≡ []) × IfRead p.info

  gives-soup : Gives (soup graph_of) Plain
  gives-soup = gives-then text Whatever _ Plain (gives-any text) (λ name _.
      gives-then (number 2) Whatever _ Plain (gives-any (number 2)) (λ sig _.
      gives-then (number 4) Whatever _ Plain (gives-any (number 4)) (λ next _.
      gives-then (counted (counted part)) Whatever _ Plain (gives-any (counted (counted part))) (λ specs _.
      gives-then (number 1 >>= extra_of graph_of) HasRead _ Plain (gives-then (number 1) Whatever (extra_of graph_of) HasRead (gives-any (number 1)) (λ n _. gives-extra n)) (λ extra r.
      gives-give (record { name = name; sig = sig; next_uid = next; specs = specs; tags = extra.0; info = extra.1; entries = [] }) Plain (refl, r))))))

  abbrev AllPlain : Store → Type 0
  AllPlain s = Each Plain s.soups

  gives-directory : Gives (directory graph_of) AllPlain
  gives-directory = gives-then text Whatever _ AllPlain (gives-any text) (λ name _.
      gives-then (number 4) Whatever _ AllPlain (gives-any (number 4)) (λ sig _.
      gives-then (number 2) Whatever _ AllPlain (gives-any (number 2)) (λ next _.
      gives-then (counted (soup graph_of)) (Each Plain) _ AllPlain (gives-then (number 1) Whatever (λ n. times n (soup graph_of)) (Each Plain) (gives-any (number 1)) (λ n _. gives-times (soup graph_of) Plain gives-soup n)) (λ soups k.
      gives-give (record { name = name; sig = sig; next_soup = next; soups = soups }) AllPlain k))))

  bare-soups : (ps : List Soup) → Each Plain ps → map bare_soup ps ≡ ps
  bare-soups [] h = refl
  bare-soups (p ∷ ps) h = λ i. record p { entries = sym h.0.0 i } ∷ bare-soups ps h.1 i

  all-plain : (bytes : List ℕ) (d : Store) → whole (directory graph_of) bytes ≡ Some d → AllPlain d
  all-plain bytes d h = gives-directory bytes [] d (whole-parts (directory graph_of) bytes d h)

  pub directory-bare : (bytes : List ℕ) (d : Store) → whole (directory graph_of) bytes ≡ Some d → bare d ≡ d
  directory-bare bytes d h = ap {A = List Soup} {B = Store} (λ ps. record d { soups = ps }) (bare-soups d.soups (all-plain bytes d h))

  -- the info frames of a directory are read from texts
  pub directory-infos : (bytes : List ℕ) (d : Store) → whole (directory graph_of) bytes ≡ Some d → (p : Soup) (g : RawGraph) → Among d.soups p → p.info ≡ Some g → IsRead g
  directory-infos bytes d h p g m e = (each-at Plain d.soups p (all-plain bytes d h) m).1 g e

-- ---- versions

pub directory-parts : (graph_of : List ℕ → Option RawGraph) (version : ℕ) (bytes : List ℕ) (d : Store) → directory_read graph_of version bytes ≡ Some d
    → (whole (directory graph_of) bytes ≡ Some d) × (keeps_version version d ≡ true) × (well_formed d ≡ true)
directory-parts graph_of version bytes d h =
    let good = only-parts well_formed (only (keeps_version version) (whole (directory graph_of) bytes)) d h in
    let keeps = only-parts (keeps_version version) (whole (directory graph_of) bytes) d good.0 in
    (keeps.0, keeps.1, good.1)
