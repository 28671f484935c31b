-- The commands of cursors that read no entry but the one that they show.
use Rattle.std.specs.Prelude.{Bool, true, false, not, List, Option, Some, None, slice_get}
use Rattle.newt_query.specs.Filter.{asks_texts}
use Rattle.newt_spec_query.specs.Cursor.{Cursor}
use Rattle.newt_spec_world.specs.Changed.{query_of, sig_of}
use Rattle.newt_spec_world.specs.World.{World, flat}
use Rattle.newt_spec_world.specs.declared.command.Command.{Command}
use Rattle.newt_spec_world.specs.declared.command.Command.TheVariants as command

-- the query of a cursor asks for no words or texts, if the cursor is open (this project's own)
abbrev pub is_unread : Option Cursor → Bool
is_unread None = true
is_unread (Some k) = not (asks_texts k.query.spec)

-- the command shows, moves or counts a cursor whose query asks for no words or texts (this project's own)
abbrev pub walks_unread : List (Option Cursor) → Command → Bool
walks_unread ks (command.Entry c) = is_unread (flat (slice_get ks c))
walks_unread ks (command.Next c) = is_unread (flat (slice_get ks c))
walks_unread ks (command.Prev c) = is_unread (flat (slice_get ks c))
walks_unread ks (command.Reset c) = is_unread (flat (slice_get ks c))
walks_unread ks (command.End c) = is_unread (flat (slice_get ks c))
walks_unread ks (command.Moveby c by) = is_unread (flat (slice_get ks c))
walks_unread ks (command.Goto c u uid) = is_unread (flat (slice_get ks c))
walks_unread ks (command.Gotokey c g) = is_unread (flat (slice_get ks c))
walks_unread ks (command.Count c) = is_unread (flat (slice_get ks c))
walks_unread ks (command.Which c) = is_unread (flat (slice_get ks c))
walks_unread ks _ = false

-- it does, or it opens a cursor with such a query (this project's own)
abbrev pub steps_unread : World → Command → Bool
steps_unread w (command.Query u name g) = not (asks_texts (query_of w (Some (sig_of w u)) name g).spec)
steps_unread w (command.QueryAll name g) = not (asks_texts (query_of w None name g).spec)
steps_unread w c = walks_unread w.cursors c
