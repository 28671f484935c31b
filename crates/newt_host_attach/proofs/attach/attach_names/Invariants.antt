use Rattle.std.proofs.Common.{◌≡◌, ℕ, false, length, map, slice_index_or, string_bytes}
use Rattle.std.specs.Prelude.{is_some}
use Rattle.newt_host_attach.proofs.Attaching.{Attaching}
use Rattle.newt_host_attach.proofs.attach.attach_names.Given as goal

abbrev pub invariant-loop-number : goal.invariant-loop-number
invariant-loop-number g l =
    let host = g.H.Host in
    record {
      attaching : Attaching host.told (map string_bytes l.names) l.number (host.outside l.fn.host) (host.outside l.host);
      flags : (unit : ℕ) → slice_index_or l.attached unit false ≡ is_some ((host.outside l.host).card unit);
      size : length l.attached ≡ 8;
    }
