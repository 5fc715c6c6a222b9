use Rattle.std.proofs.Common.{◌≡◌, ◌∙◌, ap, sym, subst, pos, Some}
use Rattle.std.specs.List.{All}
use Rattle.cc_host.specs.Bench.{BenchSeen}
use Rattle.cc_host.specs.ChildLog.{news_in}
use Rattle.cc_host.specs.declared.event.News.{News}
use Rattle.cc_host.specs.declared.event.Status.TheVariants.{Code}
use Rattle.cc_host.proofs.NewsLemmas.{plain_news}
use Rattle.cc_host.proofs.bench_host.BenchHostHostBench.turn.Goals as goal

pub returns-clause-plain : goal.returns-clause-plain
returns-clause-plain c = λ plain. (
  (ap (λ (s : BenchSeen). s.scripts) c.self.view_is ∙ plain.0, ap (λ (s : BenchSeen). s.missing) c.self.view_is ∙ plain.1, ap (λ (s : BenchSeen). s.failures) c.self.view_is ∙ plain.2),
  subst (All (λ (n : News). n.ended ≡ Some (Code (pos 0)))) (sym (c.in_ok-news.ensures.reported ∙ ap (λ s. news_in s c.self.inside.journal.children) (c.deref.ensures.value ∙ ap (λ (s : BenchSeen). s.scripts) c.self.view_is ∙ plain.0))) (plain_news c.self.inside.journal.children),
)
