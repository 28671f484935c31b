-- Backups, worked by hand.
use Rattle.std.proofs.Common.{◌≡◌, refl, ℕ, List, [], ◌∷◌, ◌++◌, codes, length, None, pos}
use Rattle.newt_graph.specs.declared.node.Node.TheVariants.{Symbol, Frame}
use Rattle.newt_graph.specs.declared.node.Ref.TheVariants.{Imm, Node as At}
use Rattle.newt_spec_nsof.specs.Flat.{flat, xlong_text, count_text, word_text, each_text, label_text as flat_label, frame_text as flat_frame, value_text as flat_value}
use Rattle.newt_spec_nsof.specs.Written.{nsof, small_frame, label_text, frame_text, binary_text, plain_array_text, value_text}
use Rattle.newt_spec_store.specs.Store.{Entry, Soup, new_store}
use Rattle.newt_backup.specs.Backup.{piece_count, packed, full, fulls, backup}

-- a fresh store of the signature 7
fresh : nsof (backup (new_store (codes "Internal") 7)) ≡
    2 ∷ 6 ∷ 2 ∷ 7 ∷ 9 ∷ codes "directory" ++ 7 ∷ 7 ∷ codes "entries" ++ 5 ∷ 1 ∷ 3 ∷ 16 ∷ 7 ∷ 5 ∷ codes "bytes"
    ++ 8 ∷ codes "Internal" ++ 0 ∷ 0 ∷ 0 ∷ 7 ∷ 0 ∷ 0 ∷ 0 ∷ 5 ∷ 0 ∷ []
unfolding packed nsof small_frame xlong_text count_text word_text each_text label_text frame_text binary_text plain_array_text value_text
fresh = refl

-- an entry of the frame {a: 1}, id 0 and minute 5, in a soup S: two nodes more, and a text of 18 bytes
entry : Entry
entry = record { uid = 0; time = 5; graph = record { nodes = Frame (1 ∷ []) (Imm (pos 4) ∷ []) ∷ Symbol (codes "a") ∷ []; root = At 0 } }

soup : Soup
soup = record { name = codes "S"; sig = 0; next_uid = 1; specs = []; tags = None; info = None; entries = entry ∷ [] }

one : nsof (backup (record { name = codes "Internal"; sig = 7; next_soup = 1; soups = soup ∷ [] })) ≡
    2 ∷ 6 ∷ 2 ∷ 7 ∷ 9 ∷ codes "directory" ++ 7 ∷ 7 ∷ codes "entries" ++ 5 ∷ 1 ∷ 3 ∷ 26 ∷ 7 ∷ 5 ∷ codes "bytes"
    ++ 8 ∷ codes "Internal" ++ 0 ∷ 0 ∷ 0 ∷ 7 ∷ 0 ∷ 1 ∷ 1 ∷ 1 ∷ codes "S" ++ 0 ∷ 0 ∷ 0 ∷ 0 ∷ 0 ∷ 1 ∷ 0 ∷ 0
    ∷ 5 ∷ 1 ∷ 5 ∷ 1 ∷ 3 ∷ 18 ∷ 9 ∷ 5
    ∷ 0 ∷ 0 ∷ 0 ∷ 0 ∷ 0 ∷ 0 ∷ 0 ∷ 0 ∷ 0 ∷ 5 ∷ 2 ∷ 6 ∷ 1 ∷ 7 ∷ 1 ∷ codes "a" ++ 0 ∷ 4 ∷ []
unfolding packed nsof small_frame xlong_text count_text word_text each_text label_text frame_text binary_text plain_array_text value_text flat flat_label flat_frame flat_value entry soup
one = refl

-- the same entry with id 3 in soup 258
of_others : full 258 (record entry { uid = 3 })
    ≡ 1 ∷ 2 ∷ 0 ∷ 0 ∷ 0 ∷ 3 ∷ 0 ∷ 0 ∷ 0 ∷ 5 ∷ flat entry.graph
unfolding entry
of_others = refl

-- two soups, of which the first has two entries
second : Entry
second = record entry { uid = 1; time = 6 }

two_soups : List Soup
two_soups =
    record soup { next_uid = 2; entries = entry ∷ second ∷ [] }
    ∷ record soup { name = codes "T"; sig = 2 } ∷ []

in_order :
    fulls (record { name = codes "Internal"; sig = 7; next_soup = 3; soups = two_soups })
    ≡ full 0 entry ∷ full 0 second ∷ full 2 entry ∷ []
unfolding entry soup second two_soups
in_order = refl

-- where bytes are cut
no_bytes : piece_count [] ≡ 0
no_bytes = refl

one_piece : (bytes : List ℕ) → length bytes ≡ 500_000 → piece_count bytes ≡ 1
one_piece bytes e = rw e refl

two_pieces : (bytes : List ℕ) → length bytes ≡ 500_001 → piece_count bytes ≡ 2
two_pieces bytes e = rw e refl
