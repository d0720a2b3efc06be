use Rattle.std.proofs.Common.{◌∙◌, sym}
use Rattle.pass_run.proofs.Passing.{begun_under, goes_under, all_came}
use Rattle.pass_run.proofs.Telling.{told_nothing, told_more}
use Rattle.pass_run.proofs.pass.run_pass.Goals as goal

pub loop-slice-init : goal.loop-slice-init
loop-slice-init g c = record {
  under = begun_under _ _ _ (rw (c.first_time.ensures, c.last_time.ensures) at c.over-slices.ensures) c.none-all.ensures;
  told = told_nothing _;
}

pub loop-slice-preserved : goal.loop-slice-preserved
loop-slice-preserved g c = record {
  under = goes_under _ _ _ _ _ c.in-Some.slice c.in_ok-outcome.outcome (sym c.next.ensures.next ∙ c.in-Some.is) c.in_ok-outcome.ensures c.gone_on-all.ensures.gone c.loop-slice.invariant.under;
  told = told_more _ _ _ c.in_ok-tell_news.ensures.0 c.loop-slice.invariant.told c.in_ok-tell_news.ensures.1;
}

pub returns : goal.returns
returns g c =
    let told = told_more _ _ _ c.in_ok-tell_news-2.ensures.0 c.loop-slice.invariant.told c.in_ok-tell_news-2.ensures.1 in
    let under = c.loop-slice.invariant.under in
    record {
      came = under.came;
      is_pass = all_came _ _ _ under c.in_default.ensures.over;
      news = told.lines;
      printed = told.printed;
    }
