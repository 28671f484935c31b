use Rattle.std.proofs.Common.{List, refl, ◌∙◌, ap, arith}
use Rattle.newt_memhost.specs.Cards.{device_of}
use Rattle.newt_memhost.specs.declared.card.Device.{Device}
use Rattle.newt_memhost.proofs.Devices.{device-added, others-stay}
use Rattle.newt_memhost.proofs.Keeping.{no-ok, on-err, still-room}
use Rattle.newt_memhost.proofs.Quiet.{same-past, sets-up}
use Rattle.newt_memhost.proofs.Taking.{told-same, out-same}
use Rattle.newt_memhost.proofs.host.MemHost.device.Goals as goal

pub returns-then-bytes : goal.returns-then-bytes
returns-then-bytes c = record {
  device = record { ok = tt; others = λ other differ. refl; err = c.requires.one };
  input = refl;
  quiet = sets-up c.args.self.now _ (same-past c.args.self.now) refl refl refl;
  plan = record { failing = refl; most = refl };
}

pub returns-in_err-device : goal.returns-in_err-device
returns-in_err-device c = record {
  device = record {
    ok = no-ok c.from_residual.result _ c.from_residual.ensures.0;
    others = λ other differ. refl;
    err = on-err c.from_residual.result c.requires.one;
  };
  input = refl;
  quiet = sets-up c.args.self.now _ (same-past c.args.self.now) refl refl refl;
  plan = record { failing = refl; most = refl };
}

pub returns-then-not-reserve : goal.returns-then-not-reserve
returns-then-not-reserve c = record {
  device = record { ok = tt; others = λ other differ. refl; err = c.requires.one };
  input = refl;
  quiet = sets-up c.args.self.now _ c.reserve.ensures.past refl refl refl;
  plan = record { failing = refl; most = refl };
}

pub returns-in_err-push : goal.returns-in_err-push
returns-in_err-push c = record {
  device = record {
    ok = no-ok c.from_residual-in_err-push.result _ c.from_residual-in_err-push.ensures.0;
    others = λ other differ. ap (λ (l : List Device). device_of c.args.self.now.cards l other) c.in_err-push.ensures.items;
    err = on-err c.from_residual-in_err-push.result (ap (λ (l : List Device). device_of c.args.self.now.cards l c.args.name.now) c.in_err-push.ensures.items ∙ c.requires.one);
  };
  input = refl;
  quiet = sets-up c.args.self.now _ c.reserve.ensures.past refl refl refl;
  plan = record { failing = refl; most = refl };
}

pub returns : goal.returns
returns c = record {
  device = record {
    ok = device-added c.args.name.now c.args.bytes.now c.args.self.now.cards c.args.self.now.shelf.items _ c.in_ok-device.device c.in_ok-push.ensures.items c.in_ok-device.ensures.name c.in_ok-device.ensures.first c.requires.one;
    others = others-stay c.args.name.now c.args.bytes.now c.args.self.now.cards c.args.self.now.shelf.items _ c.in_ok-device.device c.in_ok-push.ensures.items c.in_ok-device.ensures.name c.in_ok-device.ensures.first;
    err = tt;
  };
  input = refl;
  quiet = sets-up c.args.self.now _ c.reserve.ensures.past refl refl refl;
  plan = record { failing = refl; most = refl };
}

pub invariant_of-self : goal.invariant_of-self
invariant_of-self c =
    let e = c.reserve.ensures in
    let host = c.args.self.now in
    record {
      inside = host.inside;
      some = host.some;
      waits = still-room _ 0 host.log _ e.past e.more host.waits;
      eight = host.eight;
      told = told-same host.cards _ _ host.told e.past.moment;
      out = out-same _ _ _ _ host.out e.past.moment refl;
    }

pub invariant_of-self-2 : goal.invariant_of-self-2
invariant_of-self-2 c =
    let e = c.reserve.ensures in
    let host = c.args.self.now in
    record {
      inside = host.inside;
      some = host.some;
      waits = (let room = e.room c.if-not-reserve.false in record { entries_fit = omega (arith, room.entries_fit, c.len.ensures, c.push.ensures.upper_bound); bytes_fit = room.bytes_fit });
      eight = host.eight;
      told = told-same host.cards _ _ host.told e.past.moment;
      out = out-same _ _ _ _ host.out e.past.moment refl;
    }
