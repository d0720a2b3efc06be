-- Commands made of subcommands.
use Rattle.std.proofs.Common.{◌≡◌, false, Result, Ok, Err, ap, ◌∙◌}
use Rattle.std.specs.Prelude.{IfOk}
use Rattle.std.specs.declared.alloc.AllocError.{AllocError}
use Rattle.clap.specs.Words.{App, Shape, app_of, shape_of, with_subcommand, AddsSubcommand}
use Rattle.clap.specs.declared.builder.command.Command.TheViews.{out-Command as fields_of}
use Rattle.clap.specs.declared.builder.command.Command.{Command}

-- one subcommand more
pub added : (old sub new : Command) (app : App) (shape : Shape) → AddsSubcommand old sub new → (fields_of sub).has_globals ≡ false → app_of old ≡ app → shape_of sub ≡ shape → app_of new ≡ with_subcommand app shape
added old sub new app shape adds local is form =
    adds.shape local ∙ ap (λ (a : App). with_subcommand a (shape_of sub)) is ∙ ap (with_subcommand app) form

pub last_added : (r : Result Command AllocError) (old sub : Command) (app : App) (shape : Shape) → IfOk r (AddsSubcommand old sub) → (fields_of sub).has_globals ≡ false → app_of old ≡ app → shape_of sub ≡ shape → IfOk r (λ c. app_of c ≡ with_subcommand app shape)
last_added (Ok new) old sub app shape adds local is form = added old sub new app shape adds local is form
last_added (Err e) old sub app shape adds local is form = tt
