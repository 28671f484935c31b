-- What each command is refused for: a test for each refusal, and the table of the tests in the
-- order in which they are tried. Numbers, words and order of the refusals are this project's own.
use Rattle.std.specs.Prelude.{ℕ, ◌+◌, Bool, true, false, not, ◌||◌, ◌&&◌, ◌==◌, nat_lt, nat_le, List, [], ◌∷◌, map, length, Option, Some, None, is_some, is_none}
use Rattle.std.specs.List.{list_all, list_any}
use Rattle.newt_base.specs.declared.Refusal.{Refusal}
use Rattle.newt_base.specs.declared.Refusal.TheVariants.{Unit as NoUnit, Blocks, Mounted, Notmounted, Nostore, Store as HasStore, Stores as ManyStores, Signature, Cursor as NoCursor, Soup as NoSoup, Exists, Entry as NoEntry, Notframe, Info as BadInfo, Path as NoPath, Range, Spec as BadSpec, Index as BadIndex, Key as BadKey, Limit, Size, Ids, Full}
use Rattle.newt_base.specs.Refusals.{Checks}
use Rattle.newt_graph.specs.Graph.{RawGraph}
use Rattle.newt_spec_graph.specs.Graph.{is_frame, object}
use Rattle.newt_graph.specs.Meeting.{normal_form}
use Rattle.newt_spec_graph.specs.Limits.{is_within}
use Rattle.newt_spec_graph.specs.Slots.{put}
use Rattle.newt_spec_store.specs.Keys.{Path, has_paths}
use Rattle.newt_spec_image.specs.Pages.{cap}
use Rattle.newt_spec_store.specs.Cost.{cost, skeleton_length}
use Rattle.newt_spec_store.specs.Valid.{is_no_large}
use Rattle.newt_spec_nsof.specs.Flat.{flat}
use Rattle.newt_spec_query.specs.Spec.{is_query, keys_fit, is_nil}
use Rattle.newt_spec_world.specs.declared.command.Command.{Command}
use Rattle.newt_spec_world.specs.declared.command.Command.TheVariants as command
use Rattle.newt_spec_world.specs.declared.command.PartWord.{PartWord}
use Rattle.newt_spec_world.specs.World.{World, default_unit, store_of, store_on_unit, device, mounted, mounted_store, mounted_stores, soup_in, entry_in, cursor, free_cursor}
use Rattle.newt_spec_graph.specs.Larges.{large_at, large_bytes}
use Rattle.newt_spec_world.specs.Changed.{changed, graph_after_set, index_of, hit_for, key_from, sig_of}
use Rattle.newt_spec_world.specs.Alias.{alias_of}

-- a refusal with its test (a word of these definitions)
abbrev pub Check : Type 0
Check = Refusal × Bool

-- ---- units and stores

-- the unit has no device (this project's own)
abbrev pub no_unit : World → ℕ → Check
no_unit w u = (NoUnit, is_none (device w u))

-- the unit has fewer than 13 or more than 4,099 blocks (this project's own)
abbrev pub bad_blocks : World → ℕ → Check
bad_blocks w u = (Blocks, elim (device w u) [ None ↦ true | Some d ↦ nat_lt d.blocks 13 || nat_lt 4099 d.blocks ])

-- the unit is mounted (this project's own)
abbrev pub is_mounted : World → ℕ → Check
is_mounted w u = (Mounted, is_some (mounted_store w u))

-- the unit is not mounted (this project's own)
abbrev pub not_mounted : World → ℕ → Check
not_mounted w u = (Notmounted, is_none (mounted_store w u))

-- the unit has no readable store (this project's own)
abbrev pub no_store : World → ℕ → Check
no_store w u = (Nostore, is_none (store_on_unit w u))

-- the unit has a readable store (this project's own)
abbrev pub has_store : World → ℕ → Check
has_store w u = (HasStore, is_some (store_on_unit w u))

-- four stores are mounted (this project's own)
abbrev pub four_mounted : World → Check
four_mounted w = (ManyStores, nat_le 4 (length (mounted w)))

-- a mounted store has the signature of the unit's store (this project's own)
abbrev pub same_signature : World → ℕ → Check
same_signature w u =
    (Signature, elim (store_on_unit w u) [ None ↦ false | Some s ↦ list_any (λ t. t.sig == s.sig) (mounted_stores w) ])

-- ---- soups and entries

-- no soup has this name (this project's own)
abbrev pub no_soup : World → ℕ → List ℕ → Check
no_soup w u name = (NoSoup, is_none (soup_in w u name))

-- a soup has this name (this project's own)
abbrev pub soup_exists : World → ℕ → List ℕ → Check
soup_exists w u name = (Exists, is_some (soup_in w u name))

-- the soup has no entry of this id (this project's own)
abbrev pub no_entry : World → ℕ → List ℕ → ℕ → Check
no_entry w u name uid = (NoEntry, is_none (entry_in w u name uid))

-- the test holds of what is there; false where nothing is (a word of these definitions)
abbrev pub on_some : {X : Type 0} → Option X → (X → Bool) → Bool
on_some None test = false
on_some (Some x) test = test x

-- the soup's next entry id is 536,870,911 (this project's own)
abbrev pub no_more_ids : World → ℕ → List ℕ → Check
no_more_ids w u name = (Ids, on_some (soup_in w u name) (λ p. p.next_uid == 536_870_911))

-- the store's next soup signature is 65,535 (this project's own)
abbrev pub no_more_soups : World → ℕ → Check
no_more_soups w u = (Ids, on_some (mounted_store w u) (λ s. s.next_soup == 65_535))

-- the store has 250 soups (this project's own)
abbrev pub soup_limit : World → ℕ → Check
soup_limit w u = (Limit, on_some (mounted_store w u) (λ s. nat_le 250 (length s.soups)))

-- the store after the command would cost more pages than the unit takes (this project's own)
abbrev pub full : World → ℕ → Command → Check
full w u c =
    (Full, on_some (device (changed w c) u) (λ d. on_some (store_of d.media) (λ s. nat_lt (cap d.blocks) (cost s))))

-- ---- graphs

-- the root of the graph is not a frame (this project's own)
abbrev pub not_frame : RawGraph → Check
not_frame g = (Notframe, not (is_frame (object g.nodes g.root)))

-- the skeleton's flat text has more than 64,000 bytes (this project's own)
abbrev pub too_large : RawGraph → Check
too_large g = (Size, nat_lt 64_000 (skeleton_length g))

-- the literal is neither nil nor a frame without large binaries (this project's own)
abbrev pub bad_info : RawGraph → Check
bad_info g = (BadInfo, not (is_nil g.root || (is_frame (object g.nodes g.root) && list_all is_no_large g.nodes)))

-- the flat text of an info frame has more than 4,000 bytes (this project's own)
abbrev pub info_too_large : RawGraph → Check
info_too_large g = (Size, nat_lt 4_000 (length (flat g)))

-- a slot before the last is missing, or a step is not taken from a frame (this project's own)
abbrev pub no_path : World → ℕ → List ℕ → ℕ → Path → RawGraph → Check
no_path w u s uid path g = (NoPath, on_some (entry_in w u s uid) (λ e. is_none (put e.graph path g)))

-- the graph that a `set` gives would pass a limit of one graph (this project's own)
abbrev pub past_limits : World → ℕ → List ℕ → ℕ → Path → RawGraph → Check
past_limits w u s uid path g = (Limit, on_some (entry_in w u s uid) (λ e. on_some (put e.graph path g) (λ h. not (is_within (normal_form h)))))

-- the test of the graph that a `set` gives (a word of these definitions)
abbrev pub after_set : World → ℕ → List ℕ → ℕ → Path → RawGraph → (RawGraph → Bool) → Bool
after_set w u s uid path g test = on_some (entry_in w u s uid) (λ e. test (graph_after_set path g e.graph))

-- the skeleton of the graph that a `set` gives is too large (this project's own)
abbrev pub set_too_large : World → ℕ → List ℕ → ℕ → Path → RawGraph → Check
set_too_large w u s uid path g = (Size, after_set w u s uid path g (λ h. nat_lt 64_000 (skeleton_length h)))

-- the path reaches no large binary (this project's own)
abbrev pub no_large : World → ℕ → List ℕ → ℕ → Path → Check
no_large w u s uid path = (NoPath, on_some (entry_in w u s uid) (λ e. is_none (large_at e.graph path)))

-- the range ends after the end of the large binary (this project's own)
abbrev pub out_of_range : World → ℕ → List ℕ → ℕ → Path → ℕ → Check
out_of_range w u s uid path upto = (Range, on_some (entry_in w u s uid) (λ e. nat_lt (length (large_bytes e.graph path)) upto))

-- ---- declarations

-- the soup has an index of these paths (a word of these definitions)
abbrev pub has_index : World → ℕ → List ℕ → List Path → Bool
has_index w u s paths = on_some (soup_in w u s) (λ p. has_paths paths p.specs)

-- an index of these paths is there (this project's own)
abbrev pub index_exists : World → ℕ → List ℕ → List Path → Check
index_exists w u s paths = (BadIndex, has_index w u s paths)

-- no index of these paths is there (this project's own)
abbrev pub no_index : World → ℕ → List ℕ → List Path → Check
no_index w u s paths = (BadIndex, not (has_index w u s paths))

-- a part has the type `real` (this project's own)
abbrev pub real_part : List PartWord → Check
real_part parts = (BadKey, list_any (λ p. is_none p.kind) parts)

-- the soup has 16 indexes (this project's own)
abbrev pub index_limit : World → ℕ → List ℕ → Check
index_limit w u s = (Limit, on_some (soup_in w u s) (λ p. nat_le 16 (length p.specs)))

-- ---- queries and cursors

-- no mounted store has a soup of this name (this project's own)
abbrev pub no_soup_anywhere : World → List ℕ → Check
no_soup_anywhere w name = (NoSoup, not (list_any (λ m. is_some (soup_in w m.0 name)) (mounted w)))

-- the literal does not have the form of a query (this project's own)
abbrev pub bad_query : RawGraph → Check
bad_query g = (BadSpec, not (is_query g))

-- no soup in scope has the index that the query asks for (this project's own)
abbrev pub no_query_index : World → Option ℕ → List ℕ → RawGraph → Check
no_query_index w scope name g = (BadIndex, is_none (index_of w scope name g))

-- a key of the query is not of the index's types (this project's own)
abbrev pub bad_keys : World → Option ℕ → List ℕ → RawGraph → Check
bad_keys w scope name g = (BadKey, on_some (index_of w scope name g) (λ spec. not (keys_fit g spec)))

-- 32 cursors are open (this project's own)
abbrev pub no_free_cursor : World → Check
no_free_cursor w = (Limit, is_none (free_cursor w))

-- no cursor of this number is open (this project's own)
abbrev pub no_cursor : World → ℕ → Check
no_cursor w c = (NoCursor, is_none (cursor w c))

-- the entry is not among the hits (this project's own)
abbrev pub not_a_hit : World → ℕ → ℕ → ℕ → Check
not_a_hit w c u uid = (NoEntry, on_some (cursor w c) (λ k. is_none (hit_for w u uid k)))

-- the key is not of the index's types; a query without an index has none (this project's own)
abbrev pub bad_key : World → ℕ → RawGraph → Check
bad_key w c g = (BadKey, on_some (cursor w c) (λ k. is_none (key_from k.query.spec.index g)))

-- one of two tests holds (a word of these definitions)
abbrev pub either : Check → Check → Check
either a b = (a.0, a.1 || b.1)

-- ---- the table: the refusals of each command, in the order in which they are tried

-- the table: the tests of each command in the order in which they are tried (this project's own)
unfoldable pub checks : World → Command → Checks
checks w (command.Format u name sig) = no_unit w u ∷ bad_blocks w u ∷ is_mounted w u ∷ has_store w u ∷ []
checks w (command.Mount u) = no_unit w u ∷ bad_blocks w u ∷ is_mounted w u ∷ no_store w u ∷ four_mounted w ∷ same_signature w u ∷ []
checks w (command.Unmount u) = no_unit w u ∷ not_mounted w u ∷ []
checks w (command.Default u) = no_unit w u ∷ not_mounted w u ∷ []
checks w (command.Soup u s) = no_unit w u ∷ not_mounted w u ∷ soup_exists w u s ∷ soup_limit w u ∷ no_more_soups w u ∷ full w u (command.Soup u s) ∷ []
checks w (command.Soups u) = no_unit w u ∷ not_mounted w u ∷ []
checks w (command.Drop u s) = no_unit w u ∷ not_mounted w u ∷ no_soup w u s ∷ []
checks w (command.Index u s parts) = no_unit w u ∷ not_mounted w u ∷ no_soup w u s ∷ index_exists w u s (map (λ p. p.path) parts) ∷ real_part parts ∷ index_limit w u s ∷ full w u (command.Index u s parts) ∷ []
checks w (command.Unindex u s paths) = no_unit w u ∷ not_mounted w u ∷ no_soup w u s ∷ no_index w u s paths ∷ []
checks w (command.Indexes u s) = no_unit w u ∷ not_mounted w u ∷ no_soup w u s ∷ []
checks w (command.Tags u s) = no_unit w u ∷ not_mounted w u ∷ no_soup w u s ∷ []
checks w (command.SetTags u s path symbols) = no_unit w u ∷ not_mounted w u ∷ no_soup w u s ∷ (Limit, nat_lt 64 (length symbols)) ∷ full w u (command.SetTags u s path symbols) ∷ []
checks w (command.Info u s) = no_unit w u ∷ not_mounted w u ∷ no_soup w u s ∷ []
checks w (command.SetInfo u s g) = no_unit w u ∷ not_mounted w u ∷ no_soup w u s ∷ bad_info g ∷ info_too_large g ∷ full w u (command.SetInfo u s g) ∷ []
checks w (command.Add u s g) = no_unit w u ∷ not_mounted w u ∷ no_soup w u s ∷ not_frame g ∷ too_large g ∷ no_more_ids w u s ∷ full w u (command.Add u s g) ∷ []
checks w (command.Addx u s g) = no_unit w u ∷ not_mounted w u ∷ no_soup w u s ∷ not_frame g ∷ too_large g ∷ no_more_ids w u s ∷ full w u (command.Addx u s g) ∷ []
checks w (command.Addu s g) = let u = default_unit w in not_mounted w u ∷ no_soup w u s ∷ not_frame g ∷ too_large g ∷ no_more_ids w u s ∷ full w u (command.Addu s g) ∷ []
checks w (command.Get u s uid) = no_unit w u ∷ not_mounted w u ∷ no_soup w u s ∷ no_entry w u s uid ∷ []
checks w (command.Getx u s uid) = no_unit w u ∷ not_mounted w u ∷ no_soup w u s ∷ no_entry w u s uid ∷ []
checks w (command.Set u s uid path g) = no_unit w u ∷ not_mounted w u ∷ no_soup w u s ∷ no_entry w u s uid ∷ no_path w u s uid path g ∷ past_limits w u s uid path g ∷ set_too_large w u s uid path g ∷ full w u (command.Set u s uid path g) ∷ []
checks w (command.Change u s uid g) = no_unit w u ∷ not_mounted w u ∷ no_soup w u s ∷ no_entry w u s uid ∷ not_frame g ∷ too_large g ∷ full w u (command.Change u s uid g) ∷ []
checks w (command.Remove u s uid) = no_unit w u ∷ not_mounted w u ∷ no_soup w u s ∷ no_entry w u s uid ∷ []
checks w (command.Copy u s uid v t) = either (no_unit w u) (no_unit w v) ∷ either (not_mounted w u) (not_mounted w v) ∷ either (no_soup w u s) (no_soup w v t) ∷ no_entry w u s uid ∷ no_more_ids w v t ∷ full w v (command.Copy u s uid v t) ∷ []
checks w (command.Move u s uid v t) = either (no_unit w u) (no_unit w v) ∷ either (not_mounted w u) (not_mounted w v) ∷ either (no_soup w u s) (no_soup w v t) ∷ no_entry w u s uid ∷ no_more_ids w v t ∷ full w v (command.Move u s uid v t) ∷ []
checks w (command.Vread u s uid path at len) = no_unit w u ∷ not_mounted w u ∷ no_soup w u s ∷ no_entry w u s uid ∷ no_large w u s uid path ∷ out_of_range w u s uid path (at + len) ∷ []
checks w (command.Vwrite u s uid path at bytes) = no_unit w u ∷ not_mounted w u ∷ no_soup w u s ∷ no_entry w u s uid ∷ no_large w u s uid path ∷ out_of_range w u s uid path (at + length bytes) ∷ []
checks w (command.Alias u s uid) = no_unit w u ∷ not_mounted w u ∷ no_soup w u s ∷ no_entry w u s uid ∷ []
checks w (command.Resolve g) = (BadSpec, is_none (alias_of g)) ∷ []
checks w (command.Query u s g) = no_unit w u ∷ not_mounted w u ∷ no_soup w u s ∷ bad_query g ∷ no_query_index w (Some (sig_of w u)) s g ∷ bad_keys w (Some (sig_of w u)) s g ∷ no_free_cursor w ∷ []
checks w (command.QueryAll s g) = no_soup_anywhere w s ∷ bad_query g ∷ no_query_index w None s g ∷ bad_keys w None s g ∷ no_free_cursor w ∷ []
checks w (command.Entry c) = no_cursor w c ∷ []
checks w (command.Next c) = no_cursor w c ∷ []
checks w (command.Prev c) = no_cursor w c ∷ []
checks w (command.Reset c) = no_cursor w c ∷ []
checks w (command.End c) = no_cursor w c ∷ []
checks w (command.Moveby c k) = no_cursor w c ∷ []
checks w (command.Goto c u uid) = no_unit w u ∷ not_mounted w u ∷ no_cursor w c ∷ not_a_hit w c u uid ∷ []
checks w (command.Gotokey c g) = no_cursor w c ∷ bad_key w c g ∷ []
checks w (command.Count c) = no_cursor w c ∷ []
checks w (command.Which c) = no_cursor w c ∷ []
checks w (command.Clone c) = no_cursor w c ∷ no_free_cursor w ∷ []
checks w (command.Close c) = no_cursor w c ∷ []
checks w _ = []
