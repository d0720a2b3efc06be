use Rattle.std.proofs.Common.{◌≡◌, Some, None, codes, sym, subst}
use Rattle.toml.specs.Data.{get_member, as_str}
use Rattle.toml.specs.View.{view, table_view}
use Rattle.toml.proofs.Views.{table_get}
use Rattle.mirror_settings.specs.Relays.{IsAsked}
use Rattle.mirror_settings.proofs.Tables.{no_path, a_path, path_is}
use Rattle.mirror_settings.proofs.tunnel.path_in.Goals as goal

pub returns-in_default-clause-found : goal.returns-in_default-clause-found
returns-in_default-clause-found c =
    let is : get_member (codes "path") (table_view c.args.table.now) ≡ None = cc (table_get c.get.result (codes "path") c.args.table.now.entries c.get.ensures.value, c.in_default.is) in
    no_path (table_view c.args.table.now) is

pub returns-in_default-as_str-clause-none : goal.returns-in_default-as_str-clause-none
returns-in_default-as_str-clause-none c p has =
    let is : get_member (codes "path") (table_view c.args.table.now) ≡ Some (view c.in-Some.value.now) = cc (table_get c.get.result (codes "path") c.args.table.now.entries c.get.ensures.value, c.in-Some.is) in
    let text : as_str (view c.in-Some.value.now) ≡ Some p = (path_is (table_view c.args.table.now) (view c.in-Some.value.now) p is has).0 in
    let none : None ≡ as_str (view c.in-Some.value.now) = c.in_default-as_str.ensures in
    cc

pub returns-then-is_asked-clause-found : goal.returns-then-is_asked-clause-found
returns-then-is_asked-clause-found c =
    let is : get_member (codes "path") (table_view c.args.table.now) ≡ Some (view c.in-Some.value.now) = cc (table_get c.get.result (codes "path") c.args.table.now.entries c.get.ensures.value, c.in-Some.is) in
    a_path (table_view c.args.table.now) (view c.in-Some.value.now) c.in-Some-as_str.path.now is (sym c.in-Some-as_str.ensures) (c.is_asked.ensures.0 c.if-is_asked.true)

pub returns-else-is_asked-clause-none : goal.returns-else-is_asked-clause-none
returns-else-is_asked-clause-none c p has =
    let is : get_member (codes "path") (table_view c.args.table.now) ≡ Some (view c.in-Some.value.now) = cc (table_get c.get.result (codes "path") c.args.table.now.entries c.get.ensures.value, c.in-Some.is) in
    let both = path_is (table_view c.args.table.now) (view c.in-Some.value.now) p is has in
    let same : p ≡ c.in-Some-as_str.path.now = cc (both.0, c.in-Some-as_str.ensures) in
    let yes = c.is_asked.ensures.1 (subst IsAsked same both.1) in
    cc
