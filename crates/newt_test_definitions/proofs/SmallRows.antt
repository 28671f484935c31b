-- Small rectangles in the written text, worked by hand: rows of graphs, and rows of streams, which
-- are read and written again.
use Rattle.std.proofs.Common.{◌≡◌, refl, ℕ, List, [], ◌∷◌, map, codes, Some, None, pos}
use Rattle.newt_graph.specs.declared.node.Node.{Node}
use Rattle.newt_graph.specs.declared.node.Node.TheVariants.{Symbol, Array, Frame}
use Rattle.newt_graph.specs.declared.node.Ref.{Ref}
use Rattle.newt_graph.specs.declared.node.Ref.TheVariants.{Imm, Node as At}
use Rattle.newt_graph.specs.Graph.{RawGraph}
use Rattle.newt_spec_nsof.specs.Flat.{flat}
use Rattle.newt_spec_nsof.specs.Written.{nsof}
use Rattle.newt_test_definitions.specs.Formats.{rewritten}
use Rattle.newt_test_definitions.proofs.Tables.{open_tables}

-- ---- graphs

-- four words as values
abbrev four_values : ℕ → ℕ → ℕ → ℕ → List Ref
four_values a b c d = Imm (pos a) ∷ Imm (pos b) ∷ Imm (pos c) ∷ Imm (pos d) ∷ []

-- the tags of a rectangle
abbrev four_tags : List Node
four_tags = Symbol (codes "top") ∷ Symbol (codes "left") ∷ Symbol (codes "bottom") ∷ Symbol (codes "right") ∷ []

-- a frame of four sides, of which the first is this word
abbrev rectangle : ℕ → RawGraph
rectangle a = record { nodes = Frame (1 ∷ 2 ∷ 3 ∷ 4 ∷ []) (four_values a 8 12 16) ∷ four_tags; root = At 0 }

small : nsof (rectangle 4) ≡ 2 ∷ 11 ∷ 1 ∷ 2 ∷ 3 ∷ 4 ∷ []
unfolding open_tables
small = refl

-- its tag has no number when it is met again
met_again : nsof (record { nodes = Array None (At 1 ∷ At 2 ∷ []) ∷ Frame (2 ∷ 3 ∷ 4 ∷ 5 ∷ []) (four_values 4 8 12 16) ∷ four_tags; root = At 0 })
    ≡ 2 ∷ 5 ∷ 2 ∷ 11 ∷ 1 ∷ 2 ∷ 3 ∷ 4 ∷ 7 ∷ 3 ∷ 116 ∷ 111 ∷ 112 ∷ []
unfolding open_tables
met_again = refl

-- and takes the next one
numbered_then : nsof (record { nodes = Array None (At 1 ∷ At 2 ∷ At 2 ∷ []) ∷ Frame (2 ∷ 3 ∷ 4 ∷ 5 ∷ []) (four_values 4 8 12 16) ∷ four_tags; root = At 0 })
    ≡ 2 ∷ 5 ∷ 3 ∷ 11 ∷ 1 ∷ 2 ∷ 3 ∷ 4 ∷ 7 ∷ 3 ∷ 116 ∷ 111 ∷ 112 ∷ 9 ∷ 2 ∷ []
unfolding open_tables
numbered_then = refl

-- a tag that is met in the frame first, and is not in lower case
in_other_case : nsof (record { nodes = Frame (1 ∷ 2 ∷ 3 ∷ 4 ∷ []) (four_values 4 8 12 16) ∷ Symbol (codes "Top") ∷ Symbol (codes "left") ∷ Symbol (codes "bottom") ∷ Symbol (codes "right") ∷ []; root = At 0 })
    ≡ 2 ∷ 6 ∷ 4 ∷ 7 ∷ 3 ∷ 84 ∷ 111 ∷ 112 ∷ 7 ∷ 4 ∷ 108 ∷ 101 ∷ 102 ∷ 116 ∷ 7 ∷ 6 ∷ 98 ∷ 111 ∷ 116 ∷ 116 ∷ 111 ∷ 109 ∷ 7 ∷ 5 ∷ 114 ∷ 105 ∷ 103 ∷ 104 ∷ 116 ∷ 0 ∷ 4 ∷ 0 ∷ 8 ∷ 0 ∷ 12 ∷ 0 ∷ 16 ∷ []
unfolding open_tables
in_other_case = refl

-- a tag that was met before, in any case
met_before : nsof (record { nodes = Array None (At 1 ∷ At 2 ∷ []) ∷ Symbol (codes "Top") ∷ Frame (1 ∷ 3 ∷ 4 ∷ 5 ∷ []) (four_values 4 8 12 16) ∷ Symbol (codes "left") ∷ Symbol (codes "bottom") ∷ Symbol (codes "right") ∷ []; root = At 0 })
    ≡ 2 ∷ 5 ∷ 2 ∷ 7 ∷ 3 ∷ 84 ∷ 111 ∷ 112 ∷ 11 ∷ 1 ∷ 2 ∷ 3 ∷ 4 ∷ []
unfolding open_tables
met_before = refl

-- 255 is the greatest side
greatest_side : nsof (rectangle 1020) ≡ 2 ∷ 11 ∷ 255 ∷ 2 ∷ 3 ∷ 4 ∷ []
unfolding open_tables
greatest_side = refl

too_large_a_side : nsof (rectangle 1024) ≡ flat (rectangle 1024)
unfolding open_tables
too_large_a_side = refl

-- an array that holds itself
knot_of_two : nsof (record { nodes = Array None (At 0 ∷ At 0 ∷ []) ∷ []; root = At 0 }) ≡ 2 ∷ 5 ∷ 2 ∷ 9 ∷ 0 ∷ 9 ∷ 0 ∷ []
unfolding open_tables
knot_of_two = refl

-- ---- streams

rectangles_again : map (rewritten nsof) (map codes ("020B01020304" ∷ "0206040703746F7007046C6566740706626F74746F6D0705726967687400040008000C0010" ∷ "0205020B010203040703746F70" ∷ "0205030B010203040703746F700902" ∷ "0206040703546F7007046C6566740706626F74746F6D0705726967687400040008000C0010" ∷ "0206040703746F7007046C6566740706626F74746F6D0705726967687400FF000003FC0008000C0010" ∷ "0206040703746F7007046C6566740706626F74746F6D0705726967687400FF000004000008000C0010" ∷ []))
    ≡ map codes ("020B01020304" ∷ "020B01020304" ∷ "0205020B010203040703746F70" ∷ "0205030B010203040703746F700902" ∷ "0206040703546F7007046C6566740706626F74746F6D0705726967687400040008000C0010" ∷ "020BFF020304" ∷ "0206040703746F7007046C6566740706626F74746F6D0705726967687400FF000004000008000C0010" ∷ [])
unfolding open_tables
rectangles_again = refl

-- their flat texts
rectangles_flat : map (rewritten flat) (map codes ("020B01020304" ∷ "0206040703746F7007046C6566740706626F74746F6D0705726967687400040008000C0010" ∷ "0205020B010203040703746F70" ∷ "0205030B010203040703746F700902" ∷ "0206040703546F7007046C6566740706626F74746F6D0705726967687400040008000C0010" ∷ "0206040703746F7007046C6566740706626F74746F6D0705726967687400FF000003FC0008000C0010" ∷ "0206040703746F7007046C6566740706626F74746F6D0705726967687400FF000004000008000C0010" ∷ []))
    ≡ map codes ("0206040703746F7007046C6566740706626F74746F6D0705726967687400040008000C0010" ∷ "0206040703746F7007046C6566740706626F74746F6D0705726967687400040008000C0010" ∷ "02050206040703746F7007046C6566740706626F74746F6D0705726967687400040008000C00100902" ∷ "02050306040703746F7007046C6566740706626F74746F6D0705726967687400040008000C001009020902" ∷ "0206040703546F7007046C6566740706626F74746F6D0705726967687400040008000C0010" ∷ "0206040703746F7007046C6566740706626F74746F6D0705726967687400FF000003FC0008000C0010" ∷ "0206040703746F7007046C6566740706626F74746F6D0705726967687400FF000004000008000C0010" ∷ [])
unfolding open_tables
rectangles_flat = refl

-- tags before, after, of two rectangles, as a class, and of frames around and after
shared_sides : map (rewritten nsof) (map codes ("0205020703546F700B01020304" ∷ "0205020B010203040703544F50" ∷ "0205030B010203040B050607080902" ∷ "0204010703746F700B01020304" ∷ "0205020B0102030406010703746F700004" ∷ "0206040703746F7007046C6566740706626F74746F6D070572696768740B010203040B0102030409010905" ∷ []))
    ≡ map codes ("0205020703546F700B01020304" ∷ "0205020B010203040703746F70" ∷ "0205030B010203040B050607080902" ∷ "0204010703746F700B01020304" ∷ "0205020B0102030406010703746F700004" ∷ "0206040703746F7007046C6566740706626F74746F6D070572696768740B010203040B0102030409010905" ∷ [])
unfolding open_tables
shared_sides = refl

-- a side below 0, one that is no integer, another order, too few and too many slots
not_small : map (rewritten nsof) (map codes ("0206040703746F7007046C6566740706626F74746F6D070572696768740008000C001000FFFFFFFFFC" ∷ "0206040703746F7007046C6566740706626F74746F6D070572696768740A0008000C0010" ∷ "02060407046C6566740703746F700706626F74746F6D0705726967687400040008000C0010" ∷ "0206030703746F7007046C6566740706626F74746F6D00040008000C" ∷ "0206050703746F7007046C6566740706626F74746F6D0705726967687407016B00040008000C00100014" ∷ []))
    ≡ map codes ("0206040703746F7007046C6566740706626F74746F6D070572696768740008000C001000FFFFFFFFFC" ∷ "0206040703746F7007046C6566740706626F74746F6D070572696768740A0008000C0010" ∷ "02060407046C6566740703746F700706626F74746F6D0705726967687400040008000C0010" ∷ "0206030703746F7007046C6566740706626F74746F6D00040008000C" ∷ "0206050703746F7007046C6566740706626F74746F6D0705726967687407016B00040008000C00100014" ∷ [])
unfolding open_tables
not_small = refl
