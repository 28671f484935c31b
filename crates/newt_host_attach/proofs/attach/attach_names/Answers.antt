use Rattle.std.proofs.Common.{◌≡◌, ℕ, ◌<◌, ◌≤◌, map, length, Global, string_bytes, refl, sym, ◌∙◌, subst, arith}
use Rattle.std.proofs.lemmas.List.{length-map, length-set}
use Rattle.newt_host_attach.proofs.Attaching.{Attaching, attaching_start, attaching_next, attaching_all, flags_start, flags_next, name_at, next_free}
use Rattle.newt_host_attach.proofs.attach.attach_names.Goals as goal

pub loop-number-init : goal.loop-number-init
loop-number-init g c = record {
  attaching = attaching_start g.H.Host.told (map (string_bytes {Z = Global}) c.args.names.now) (g.H.Host.outside c.args.host.now) c.requires.free;
  flags = flags_start (g.H.Host.outside c.args.host.now) c.requires.free;
  size = refl;
}

pub attach-requires-clause-free : goal.attach-requires-clause-free
attach-requires-clause-free g c = c.loop-number.invariant.attaching.later c.loop-number.number (omega arith)

pub attach-requires-clause-once : goal.attach-requires-clause-once
attach-requires-clause-once g c =
    next_free _ _ _ _ _ c.as_str.result.now c.requires.distinct c.loop-number.invariant.attaching
    (name_at (string_bytes {Z = Global}) c.args.names.now c.loop-number.number c.index-names-number.result c.as_str.result.now c.loop-number-test.true c.index-names-number.is c.as_str.ensures.value)

pub loop-number-preserved : goal.loop-number-preserved
loop-number-preserved g c =
    let at = name_at (string_bytes {Z = Global}) c.args.names.now c.loop-number.number c.index-names-number.result c.as_str.result.now c.loop-number-test.true c.index-names-number.is c.as_str.ensures.value in
    let few : length c.args.names.now ≤ 8 = c.requires.few in
    let within : c.loop-number.number < length c.loop-number.attached = omega (arith, c.loop-number.invariant.size) in
    record {
      attaching = attaching_next _ _ _ _ _ _ c.as_str.result.now at c.loop-number.invariant.attaching c.attach.ensures.call
          c.attach.result (λ told. g.met.H.Host.untouched c.loop-number.host c.loop-number.number told (c.loop-number.invariant.attaching.later c.loop-number.number (omega arith)))
          c.attach.ensures.known c.attach.ensures.attached c.attach.ensures.refused;
      flags = flags_next _ _ _ _ _ _ c.as_str.result.now at c.loop-number.invariant.attaching c.attach.ensures.call
          c.attach.result c.loop-number.attached c.attach.ensures.attached c.attach.ensures.refused within c.loop-number.invariant.flags;
      size = length-set c.loop-number.attached c.loop-number.number c.attach.result ∙ c.loop-number.invariant.size;
    }

pub returns-clause-attached : goal.returns-clause-attached
returns-clause-attached g c =
    let end : c.loop-number.number ≡ length c.args.names.now = omega arith in
    let P : ℕ → Type 0 = λ n. Attaching g.H.Host.told (map (string_bytes {Z = Global}) c.args.names.now) n (g.H.Host.outside c.args.host.now) (g.H.Host.outside c.loop-number.host) in
    attaching_all g.H.Host.told (map (string_bytes {Z = Global}) c.args.names.now) (g.H.Host.outside c.args.host.now) (g.H.Host.outside c.loop-number.host)
    (subst P (end ∙ sym (length-map c.args.names.now (string_bytes {Z = Global}))) c.loop-number.invariant.attaching)

pub returns-clause-flags : goal.returns-clause-flags
returns-clause-flags g c = c.loop-number.invariant.flags
