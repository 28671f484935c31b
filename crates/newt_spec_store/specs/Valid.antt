-- What holds of every store: the forms of its names and declarations, and the limits. The limits,
-- and that a path is of identifiers, are this project's own.
use Rattle.std.specs.Prelude.{ℕ, Bool, true, false, not, ◌&&◌, ◌||◌, ◌==◌, nat_le, map, length, Option, Some, None, is_none}
use Rattle.std.specs.List.{list_all}
use Rattle.newt_base.specs.Names.{is_name, same_name, equal_text, is_identifier, valid_path}
use Rattle.newt_spec_graph.specs.Lists.{all_apart, rises}
use Rattle.newt_spec_graph.specs.Graph.{is_frame, object}
use Rattle.newt_spec_graph.specs.Limits.{within_limits}
use Rattle.newt_graph.specs.Graph.{RawGraph}
use Rattle.newt_graph.specs.declared.node.Node.{Node}
use Rattle.newt_graph.specs.declared.node.Node.TheVariants.{Large}
use Rattle.newt_spec_nsof.specs.Flat.{flat}
use Rattle.newt_spec_store.specs.Keys.{IndexSpec, paths_of, same_paths}
use Rattle.newt_spec_store.specs.Store.{Entry, TagTable, Soup, Store}
use Rattle.newt_spec_image.specs.Pages.{cap}
use Rattle.newt_spec_store.specs.Cost.{cost, skeleton_length}

-- one to four parts, each with a path (this project's own)
abbrev pub valid_spec : IndexSpec → Bool
valid_spec spec = nat_le 1 (length spec) && nat_le (length spec) 4 && list_all (λ p. valid_path p.path) spec

-- no tags declaration, or one of a path and at most 64 symbols, no two of which are one but for the
-- case of letters (this project's own)
abbrev pub valid_tags : Option TagTable → Bool
valid_tags None = true
valid_tags (Some t) =
    valid_path t.path && nat_le (length t.symbols) 64 && list_all is_identifier t.symbols && all_apart same_name t.symbols

-- the root is a frame, the graph is within the limits of one graph, and its skeleton's flat text
-- has at most 64,000 bytes (this project's own)
abbrev pub valid_entry : Entry → Bool
valid_entry e =
    is_frame (object e.graph.nodes e.graph.root) && within_limits e.graph && nat_le (skeleton_length e.graph) 64_000

-- the node is not a large binary (a word of these definitions)
abbrev pub is_no_large : Node → Bool
is_no_large (Large _ _) = false
is_no_large node = true

-- no info, or a graph within the limits of one graph whose root is a frame, without large binaries,
-- whose flat text has at most 4,000 bytes (this project's own)
abbrev pub valid_info : Option RawGraph → Bool
valid_info None = true
valid_info (Some g) = is_frame (object g.nodes g.root) && list_all is_no_large g.nodes && within_limits g && nat_le (length (flat g)) 4_000

-- A soup: its name has the form of one. Its ids rise and are below the next one, which is at most
-- 536,870,911. It has at most 16 indexes, no two with the same paths. Its indexes, its tags, its
-- info and its entries are valid. (this project's own)
abbrev pub valid_soup : Soup → Bool
valid_soup p =
    is_name p.name && nat_le p.next_uid 536_870_911 && rises 0 p.next_uid (map (λ e. e.uid) p.entries)
    && nat_le (length p.specs) 16 && list_all valid_spec p.specs && all_apart same_paths (map paths_of p.specs)
    && valid_tags p.tags && valid_info p.info && list_all valid_entry p.entries

-- A store, but for its cost: its name has the form of one, and its signature is at most
-- 536,870,911. It has at most 250 soups. Their signatures rise and are below the next one, which is
-- at most 65,535. Their names are distinct, and each soup is valid. (this project's own)
abbrev pub well_formed : Store → Bool
well_formed s =
    is_name s.name && nat_le s.sig 536_870_911 && nat_le s.next_soup 65_535 && nat_le (length s.soups) 250
    && rises 0 s.next_soup (map (λ p. p.sig) s.soups) && all_apart equal_text (map (λ p. p.name) s.soups)
    && list_all valid_soup s.soups

-- the store costs no more pages than a unit of so many blocks takes (this project's own)
abbrev pub fits : ℕ → Store → Bool
fits blocks s = nat_le (cost s) (cap blocks)

-- what a directory of this version can say: one of version 1 has at most 64 soups, none of them
-- with info (this project's own)
abbrev pub keeps_version : ℕ → Store → Bool
keeps_version version s = not (version == 1) || (nat_le (length s.soups) 64 && list_all (λ p. is_none p.info) s.soups)

-- what holds of every store on a unit of so many blocks (this project's own)
abbrev pub valid : ℕ → Store → Bool
valid blocks s = well_formed s && fits blocks s
