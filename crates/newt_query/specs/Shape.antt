-- What the frame of a query says before its index is known.
use Rattle.std.specs.Prelude.{ℕ, Bool, List, Option, codes}
use Rattle.newt_graph.specs.Graph.{RawGraph}
use Rattle.newt_spec_store.specs.Keys.{Path}
use Rattle.newt_spec_query.specs.Tags.{TagSpec}
use Rattle.newt_spec_query.specs.Spec.{given, has_slot, query_paths, tag_spec, texts_given}

-- the paths of its index, none where it asks for no index; its tags, its words and its texts,
-- folded, and the mark for entire words (Newton Programmer's Guide 2.0, query specs)
pub record Shape : Type 0 where
  pub paths : Option (List Path)
  pub tags : TagSpec
  pub words : List (List ℕ)
  pub texts : List (List ℕ)
  pub entire : Bool

-- what the frame says but for the keys, which are read once the index is known (Newton Programmer's
-- Guide 2.0, query specs)
abbrev pub shape_of : RawGraph → Shape
shape_of g = record {
  paths = query_paths g;
  tags = tag_spec g.nodes (given g.nodes g.root (codes "tagSpec"));
  words = texts_given g (codes "words");
  texts = texts_given g (codes "text");
  entire = has_slot g (codes "entireWords");
}
