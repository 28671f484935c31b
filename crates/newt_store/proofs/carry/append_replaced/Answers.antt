use Rattle.std.proofs.Common.{◌≡◌, ◌++◌, OnOk, Option, append-nil, sym, subst}
use Rattle.newt_objects_commit.specs.Names.{names_of}
use Rattle.newt_objects_commit.specs.declared.batch.NewEntry.{NewEntry}
use Rattle.newt_store.specs.Next.{names_replaced}
use Rattle.newt_store.proofs.carry.append_replaced.Goals as goal

pub returns-in-Some : goal.returns-in-Some
returns-in-Some c = subst (λ (o : Option NewEntry). OnOk c.append.result (c.append.new.ids.items ≡ c.args.ids.now.items ++ names_replaced (names_of c.args.names.now) o)) (sym c.in-Some.is) c.append.ensures

pub returns-in-None : goal.returns-in-None
returns-in-None c = subst (λ (o : Option NewEntry). c.args.ids.now.items ≡ c.args.ids.now.items ++ names_replaced (names_of c.args.names.now) o) (sym c.in-None.is) (sym (append-nil c.args.ids.now.items))
