-- The texts of a backup are read back from its nodes.
use Rattle.std.proofs.Common.{◌≡◌, refl, sym, ◌∙◌, ap, ℕ, suc, ◌+◌, ◌*◌, ◌/◌, ◌%◌, ◌^◌, ◌<◌, false, Some, None, get_or, List, [], ◌∷◌, ◌++◌, map, length, take, drop, arith, rules, append_assoc}
use Rattle.std.specs.List.{flat_map}
use Rattle.std.specs.Prelude.{nat_lt, option_map, if◌then◌else◌}
use Rattle.std.proofs.lemmas.List.{take-append-drop}
use Rattle.newt_graph.specs.declared.node.Node.{Node}
use Rattle.newt_graph.specs.declared.node.Node.TheVariants.{Binary, Array}
use Rattle.newt_base.specs.Text.{be16_at, be32_at}
use Rattle.newt_graph.specs.Graph.{RawGraph, IsGraph}
use Rattle.newt_spec_nsof.specs.Flat.{flat}
use Rattle.newt_nsof_flat.specs.Stream.{stream_graph}
use Rattle.newt_nsof_flat.proofs.Streams.{reads_graphs}
use Rattle.newt_spec_store.specs.Store.{Entry}
use Rattle.newt_backup.specs.Backup.{piece_count, pieces, cuts, cuts_at, entries_at, packed, full}
use Rattle.newt_backup.specs.Texts.{texts_from, full_read}
use Rattle.newt_backup.proofs.Pieces.{joined}

-- binaries are joined to the text before them
binaries : (class : ℕ) (text : List ℕ) (ps : List (List ℕ)) (nodes : List Node) → texts_from text (map (Binary class) ps ++ nodes) ≡ texts_from (text ++ flat_map (λ piece. piece) ps) nodes
binaries class text [] nodes = ap (λ t. texts_from t nodes) (search rules)
binaries class text (p ∷ ps) nodes = binaries class (text ++ p) ps nodes ∙ ap (λ t. texts_from t nodes) (append_assoc text p (flat_map (λ piece. piece) ps))

pub cuts-read : (at : ℕ) (text : List ℕ) (texts : List (List ℕ)) → texts_from text (cuts at texts) ≡ text ∷ texts
cuts-read at text [] = refl
cuts-read at text (t ∷ ts) = ap (λ l. text ∷ l) (binaries 5 [] (pieces t) (cuts (at + (1 + piece_count t)) ts)
    ∙ ap (λ b. texts_from b (cuts (at + (1 + piece_count t)) ts)) (joined t) ∙ cuts-read (at + (1 + piece_count t)) t ts)

-- after nothing come the directory, nothing once more, and the entries
pub packed-read : (directory : List ℕ) (entries : List (List ℕ)) → texts_from [] (packed directory entries).nodes ≡ [] ∷ directory ∷ [] ∷ entries
unfolding packed
packed-read directory entries =
    let others = drop 500_000 directory in
    let rest = Array None (cuts_at (entries_at directory + 1) entries) ∷ cuts (entries_at directory + 1) entries in
    ap (λ l. [] ∷ l) (binaries 5 (take 500_000 directory) (pieces others) rest
    ∙ ap (λ b. texts_from b rest) (ap (λ l. take 500_000 directory ++ l) (joined others) ∙ take-append-drop 500_000 directory)
    ∙ ap (λ l. directory ∷ l) (cuts-read (entries_at directory + 1) [] entries))

-- what was packed is known by the graph
pub packed-one : (d f : List ℕ) (es fs : List (List ℕ)) → packed d es ≡ packed f fs → (d ≡ f) × (es ≡ fs)
packed-one d f es fs h =
    let same = sym (packed-read d es) ∙ ap (λ g. texts_from [] g.nodes) h ∙ packed-read f fs in
    (ap (λ l. nth 1 l) same, ap (λ l. drop 3 l) same)
  where
    nth : ℕ → List (List ℕ) → List ℕ
    nth n l = get_or l n []

-- ---- an entry

-- an entry is read from its text
pub full-read : (sig : ℕ) (e : Entry) → sig < 65536 → e.uid < 4294967296 → e.time < 4294967296 → IsGraph e.graph → full_read (full sig e) ≡ Some (sig, e)
unfolding full_read
full-read sig e s u t g =
    ap (λ b. if b then None else option_map (λ g. (be16_at (full sig e) 0, of (be32_at (full sig e) 2) (be32_at (full sig e) 6) g)) (stream_graph (flat e.graph))) (long (length (flat e.graph)))
    ∙ ap (λ o. option_map (λ g. (be16_at (full sig e) 0, of (be32_at (full sig e) 2) (be32_at (full sig e) 6) g)) o) (reads_graphs.back e.graph g)
    ∙ ap (λ n. Some (n, of (be32_at (full sig e) 2) (be32_at (full sig e) 6) e.graph)) (two sig s)
    ∙ ap (λ n. Some (sig, of n (be32_at (full sig e) 6) e.graph)) (four e.uid u)
    ∙ ap (λ n. Some (sig, of e.uid n e.graph)) (four e.time t)
  where
    of : ℕ → ℕ → RawGraph → Entry
    of uid time graph = record { uid = uid; time = time; graph = graph }

    long : (n : ℕ) → nat_lt (suc (suc (suc (suc (suc (suc (suc (suc (suc (suc n)))))))))) 10 ≡ false
    long n = search (rules, arith)

    two : (n : ℕ) → n < 65536 → 256 * (n / 256 % 256) + n % 256 ≡ n
    two n h = omega arith

    four : (n : ℕ) → n < 4294967296 → 2 ^ 16 * (256 * (n / 65536 / 256 % 256) + n / 65536 % 256) + (256 * (n / 256 % 256) + n % 256) ≡ n
    four n h = omega arith
