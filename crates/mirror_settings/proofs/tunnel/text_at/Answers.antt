use Rattle.std.proofs.Common.{◌≡◌, Some, None}
use Rattle.toml.specs.Data.{get_member}
use Rattle.toml.specs.View.{view, table_view}
use Rattle.toml.proofs.Views.{table_get}
use Rattle.mirror_settings.proofs.Tables.{text_found, no_text}
use Rattle.mirror_settings.proofs.tunnel.text_at.Goals as goal

pub returns-in-Some-clause-found : goal.returns-in-Some-clause-found
returns-in-Some-clause-found c =
    let is : get_member c.args.key.now (table_view c.args.table.now) ≡ Some (view c.in-Some.value.now) = cc (table_get c.get.result c.args.key.now c.args.table.now.entries c.get.ensures.value, c.in-Some.is) in
    text_found (view c.in-Some.value.now) c.as_str.result _ c.as_str.ensures is

pub returns-in-Some-clause-none : goal.returns-in-Some-clause-none
returns-in-Some-clause-none c =
    let is : get_member c.args.key.now (table_view c.args.table.now) ≡ Some (view c.in-Some.value.now) = cc (table_get c.get.result c.args.key.now c.args.table.now.entries c.get.ensures.value, c.in-Some.is) in
    no_text (view c.in-Some.value.now) c.as_str.result _ c.as_str.ensures is

pub returns-in-None-clause-none : goal.returns-in-None-clause-none
returns-in-None-clause-none c t there =
    let is : get_member c.args.key.now (table_view c.args.table.now) ≡ None = cc (table_get c.get.result c.args.key.now c.args.table.now.entries c.get.ensures.value, c.in-None.is) in
    cc
