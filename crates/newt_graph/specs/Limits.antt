-- The limits of an object, of a graph and of a builder. They are this project's own.
use Rattle.std.specs.Prelude.{ℕ}

-- how many slots an array or a frame has at most
abbrev pub most_slots : ℕ
most_slots = 65535

-- how many bytes a string, with its last unit, a binary or a large binary has at most
abbrev pub most_data : ℕ
most_data = 1000000

-- how many nodes a graph has at most
abbrev pub most_nodes : ℕ
most_nodes = 65535

-- how many bytes the strings, binaries and large binaries of a graph have together at most
abbrev pub most_bytes : ℕ
most_bytes = 16777216

-- how many arrays and frames are open within one another at most
abbrev pub most_open : ℕ
most_open = 200

-- how many nodes a builder has at most
abbrev pub most_held : ℕ
most_held = 131072

-- how many bytes the strings, binaries and large binaries of a builder have together at most
abbrev pub most_held_bytes : ℕ
most_held_bytes = 33554432
