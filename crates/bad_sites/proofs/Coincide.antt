-- Two answers that meet the contract of `some_bad_site` coincide.
use mathlib.Core.Path.{sym, ◌∙◌}
use Rattle.ground.specs.Coincide.{Answers}
use Rattle.bad_sites.proofs.some_bad_site.Kinds as some-bad-site-kinds
use Rattle.bad_sites.proofs.some_bad_site.Reads as some-bad-site-reads

pub some-bad-site-coincide : Answers some-bad-site-kinds.ps some-bad-site-kinds.r some-bad-site-reads.Post
some-bad-site-coincide κs a x y s t p q = p ∙ sym q
