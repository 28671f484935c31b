-- A script: its lines, what they give, and the output. All of it is this project's own.
use Rattle.std.specs.Prelude.{◌≡◌, ◌⊎◌, ℕ, Bool, true, false, ◌==◌, List, [], ◌∷◌, map, flat_map}
use Rattle.std.specs.Prelude.{filter_map, Option, Some, None, Result, Ok, Err}
use Rattle.std.specs.List.{AllZip}
use Rattle.newt_base.specs.Text.{hex_bytes}
use Rattle.newt_base.specs.declared.Refusal.{Refusal}
use Rattle.newt_base.specs.declared.Refusal.TheVariants.{Malformed, Compressed, Literal}
use Rattle.newt_graph.specs.Graph.{RawGraph}
use Rattle.newt_spec_world.specs.declared.command.Command.{Command}
use Rattle.newt_spec_world.specs.declared.command.Command.TheVariants as command
use Rattle.newt_spec_world.specs.Reply.{Reply, reply_text}
use Rattle.newt_spec_script.specs.Line.{Parsed, ready, literal, stream, bytes, parsed}

-- ---- lines

-- the pieces that end at a byte 10, and what follows the last one where it is not empty
-- (this project's own)
abbrev pub lines : List ℕ → List (List ℕ)
lines [] = []
lines (c ∷ cs) = elim (c == 10) [ true ↦ [] ∷ lines cs | false ↦ onto c (lines cs) ]
  where
    onto : ℕ → List (List ℕ) → List (List ℕ)
    onto x [] = (x ∷ []) ∷ []
    onto x (l ∷ ls) = (x ∷ l) ∷ ls

-- a line without the one byte 13 at its end (this project's own)
abbrev pub without_return : List ℕ → List ℕ
without_return [] = []
without_return (c ∷ []) = elim (c == 13) [ true ↦ [] | false ↦ c ∷ [] ]
without_return (c ∷ d ∷ cs) = c ∷ without_return (d ∷ cs)

-- an item: what a line gives, a command or a refusal (a word of these definitions)
abbrev pub Item : Type 0
Item = Result Command Refusal

-- the lines that say something (this project's own)
abbrev pub parsed_lines : List ℕ → List Parsed
parsed_lines script = filter_map (λ l. parsed (without_return l)) (lines script)

-- a command with bytes from hexadecimal text (this project's own)
abbrev pub bytes_item : Option (List ℕ) → (List ℕ → Command) → Item
bytes_item None f = Err Malformed
bytes_item (Some bs) f = Ok (f bs)

-- ---- the reading of a line, over the grammars of literals and of object streams

module _ (Reads Spells SpellsWide : List ℕ → RawGraph → Type 0) where
  -- no graph stands in the relation (a word of these definitions)
  abbrev pub NoGraph : (RawGraph → Type 0) → Type 0
  NoGraph P = (g : RawGraph) → ¬ P g

  -- What a stream gives. The command has the graph that the bytes spell. It is `Compressed` where
  -- only the wide grammar spells a graph, and `Malformed` where neither does. (this project's own)
  abbrev pub ReadsStream : List ℕ → (RawGraph → Command) → Item → Type 0
  ReadsStream bs f item =
      ((g : RawGraph) × Spells bs g × (item ≡ Ok (f g)))
      ⊎ (NoGraph (Spells bs) × ((g : RawGraph) × SpellsWide bs g) × (item ≡ Err Compressed))
      ⊎ (NoGraph (SpellsWide bs) × (item ≡ Err Malformed))

  -- the same of hexadecimal text (this project's own)
  abbrev pub ReadsHex : Option (List ℕ) → (RawGraph → Command) → Item → Type 0
  ReadsHex None f item = item ≡ Err Malformed
  ReadsHex (Some bs) f item = ReadsStream bs f item

  -- what a line gives, as a relation (this project's own)
  abbrev pub ReadsParsed : Parsed → Item → Type 0
  ReadsParsed (ready r) item = item ≡ r
  ReadsParsed (literal text f) item =
      ((g : RawGraph) × Reads text g × (item ≡ Ok (f g)))
      ⊎ (NoGraph (Reads text) × (item ≡ Err Literal))
  ReadsParsed (stream digits f) item = ReadsHex (hex_bytes digits) f item
  ReadsParsed (bytes digits f) item = item ≡ bytes_item (hex_bytes digits) f

  -- the items of lines that say something (this project's own)
  abbrev pub ReadsLines : List Parsed → List Item → Type 0
  ReadsLines = AllZip ReadsParsed

  -- these are the items of the script (this project's own)
  abbrev pub IsScript : List ℕ → List Item → Type 0
  IsScript script items = ReadsLines (parsed_lines script) items

-- ---- the run of the items

-- a well-formed `quit`, which ends a script (this project's own)
abbrev pub is_quit : Item → Bool
is_quit (Ok command.Quit) = true
is_quit _ = false

-- the items up to the first `quit`, and that one (this project's own)
abbrev pub up_to_quit : List Item → List Item
up_to_quit [] = []
up_to_quit (x ∷ xs) = elim (is_quit x) [ true ↦ x ∷ [] | false ↦ x ∷ up_to_quit xs ]

module _ {W : Type 0} (answers : W → Command → W × Reply) where
  -- the world after an item, and its reply; a line that is refused leaves the world
  -- (this project's own)
  abbrev pub step : W → Item → W × Reply
  step w (Err refusal) = (w, Reply.refused refusal)
  step w (Ok c) = answers w c

  -- the world after items one after another (a word of these definitions)
  abbrev pub world_after : W → List Item → W
  world_after w [] = w
  world_after w (x ∷ xs) = world_after (step w x).0 xs

  -- their replies (a word of these definitions)
  abbrev pub replies_to : W → List Item → List Reply
  replies_to w [] = []
  replies_to w (x ∷ xs) = let a = step w x in a.1 ∷ replies_to a.0 xs

  -- the output of a script in this world (this project's own)
  abbrev pub output : W → List Item → List ℕ
  output w items = flat_map reply_text (replies_to w (up_to_quit items))

-- ---- with readers that compute

-- readings of literals and of streams as functions; a stream is refused as malformed or as
-- compressed (a word of these definitions)
pub record Readers : Type 0 where
  pub literal_of : List ℕ → Option RawGraph
  pub stream_of : List ℕ → Result RawGraph Refusal

-- the command with a literal, where there is one (this project's own)
abbrev pub literal_item : Option RawGraph → (RawGraph → Command) → Item
literal_item None f = Err Literal
literal_item (Some g) f = Ok (f g)

-- the command with a graph, or why there is none (this project's own)
abbrev pub stream_item : Result RawGraph Refusal → (RawGraph → Command) → Item
stream_item (Err r) f = Err r
stream_item (Ok g) f = Ok (f g)

-- the same of the bytes of a stream, where the text is hexadecimal (this project's own)
abbrev pub hex_item : Readers → Option (List ℕ) → (RawGraph → Command) → Item
hex_item rs None f = Err Malformed
hex_item rs (Some bs) f = stream_item (rs.stream_of bs) f

-- what a line gives, with such readings (this project's own)
abbrev pub item_of : Readers → Parsed → Item
item_of rs (ready r) = r
item_of rs (literal text f) = literal_item (rs.literal_of text) f
item_of rs (stream digits f) = hex_item rs (hex_bytes digits) f
item_of rs (bytes digits f) = bytes_item (hex_bytes digits) f

-- what the lines of a script give (this project's own)
abbrev pub items_of : Readers → List ℕ → List Item
items_of rs script = map (item_of rs) (parsed_lines script)
