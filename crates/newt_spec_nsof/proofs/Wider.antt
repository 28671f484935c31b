-- What is spelled is spelled widely: the wide grammar lets go of the flag alone.
use Rattle.std.specs.Prelude.{ℕ, true, false, List}
use Rattle.newt_graph.specs.declared.node.Node.{Node}
use Rattle.newt_graph.specs.declared.node.Ref.{Ref}
use Rattle.newt_graph.specs.Graph.{RawGraph}
use Rattle.newt_spec_nsof.specs.Text.{LargeText, Object, Objects, Spells, SpellsWide}

large_wider : {text bytes : List ℕ} → LargeText false text bytes → LargeText true text bytes
large_wider t = record {
  flag = t.flag;
  free = t.free;
  compander = t.compander;
  parameters = t.parameters;
  is_flag = tt;
  is_data = t.is_data;
  compander_fits = t.compander_fits;
  parameters_fit = t.parameters_fit;
  free_fits = t.free_fits;
  whole = t.whole;
}

mutual
  object_wider : {room : ℕ} {before : List Node} {numbered text : List ℕ} {value : Ref} {new : List Node} {after : List ℕ} → Object false room before numbered text value new after → Object true room before numbered text value new after
  object_wider (Object.word h is) = Object.word h is
  object_wider (Object.character h) = Object.character h
  object_wider (Object.wide_character h l) = Object.wide_character h l
  object_wider Object.nil = Object.nil
  object_wider (Object.symbol h) = Object.symbol h
  object_wider (Object.again h) = Object.again h
  object_wider (Object.string h is) = Object.string h is
  object_wider (Object.binary h is label) = Object.binary h is label
  object_wider (Object.large label is) = Object.large label (large_wider is)
  object_wider (Object.frame h are paired labels values) = Object.frame h are paired labels (objects_wider values)
  object_wider (Object.rectangle t l b r each) = Object.rectangle t l b r each
  object_wider (Object.plain_array h few values) = Object.plain_array h few (objects_wider values)
  object_wider (Object.array h few label values) = Object.array h few label (objects_wider values)

  objects_wider : {room : ℕ} {before : List Node} {numbered text : List ℕ} {values : List Ref} {new : List Node} {after : List ℕ} → Objects false room before numbered text values new after → Objects true room before numbered text values new after
  objects_wider Objects.none = Objects.none
  objects_wider (Objects.more value values) = Objects.more (object_wider value) (objects_wider values)

pub spelled_wider : (bytes : List ℕ) (g : RawGraph) → Spells bytes g → SpellsWide bytes g
spelled_wider bytes g s = record { text = s.text; numbered = s.numbered; whole = s.whole; object = object_wider s.object; few = s.few; light = s.light }
