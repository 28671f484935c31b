-- Scripts as text, with literals and object streams read by the readers that the program has.
use Prim.Native.String.{String}
use Rattle.std.specs.Prelude.{ℕ, List, [], ◌∷◌, ◌++◌, map, flat_map, replicate, codes}
use Rattle.newt_spec_world.specs.World.{World}
use Rattle.newt_spec_world.specs.Answer.{answer}
use Rattle.newt_spec_world.specs.Reply.{reply_text}
use Rattle.newt_spec_script.specs.Script.{items_of, output, replies_to, up_to_quit}
use Rattle.newt_spec_script.specs.Generator.{summary}
use Rattle.newt_script.specs.Graphs.{readers}

-- a text of these lines, each with its end
abbrev pub in_lines : List String → List ℕ
in_lines = flat_map (λ line. codes line ++ 10 ∷ [])

-- the output of a script over this world
abbrev pub answers : World → List ℕ → List ℕ
answers w script = output answer w (items_of readers script)

-- the summary of its replies
abbrev pub summary_of : World → List ℕ → List ℕ
summary_of w script = summary (map reply_text (replies_to answer w (up_to_quit (items_of readers script))))

-- a line of so many letters x; it is not written out
unfoldable pub line_of_x : ℕ → List ℕ
line_of_x n = replicate n 120
