-- Worlds whose cursors show the present keys.
use Rattle.std.specs.Prelude.{◌≡◌, Bool, true, false}
use Rattle.newt_spec_world.specs.declared.command.Command.{Command}
use Rattle.newt_spec_world.specs.declared.command.Command.TheVariants as command
use Rattle.newt_spec_world.specs.World.{World, settle, mounted_stores}
use Rattle.newt_spec_graph.specs.Lists.{Pairs}

-- no cursor has another key than its hit
abbrev pub IsSettled : World → Type 0
IsSettled w = settle w ≡ w

-- no two mounted stores have one signature
abbrev pub MountedApart : World → Type 0
MountedApart w = Pairs (λ s t. s.sig ≡ t.sig → ⊥) (mounted_stores w)

-- the commands after which a hit can have another key
unfoldable pub moves_keys : Command → Bool
moves_keys (command.Mount _) = true
moves_keys (command.Index _ _ _) = true
moves_keys (command.SetTags _ _ _ _) = true
moves_keys (command.Add _ _ _) = true
moves_keys (command.Addx _ _ _) = true
moves_keys (command.Addu _ _) = true
moves_keys (command.Set _ _ _ _ _) = true
moves_keys (command.Change _ _ _ _) = true
moves_keys (command.Copy _ _ _ _ _) = true
moves_keys (command.Move _ _ _ _ _) = true
moves_keys (command.Vwrite _ _ _ _ _ _) = true
moves_keys _ = false
