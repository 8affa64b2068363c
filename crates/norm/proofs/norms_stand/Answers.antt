use Rattle.norm.proofs.Lawful.{norm_laws, one_normed}
use Rattle.norm.proofs.Certificates.{certificate_law}
use Rattle.norm.proofs.norms_stand.Goals as goal

pub returns : goal.returns
returns g c = record {
  law = λ M norm first F C N. norm_laws g.T.Tally.group M norm first F C N;
  one = λ M norm norm' first first' N N' A h. one_normed g.T.Tally.group M norm norm' first first' N N' A h;
  certificate = certificate_law g.T.Tally.group;
}
