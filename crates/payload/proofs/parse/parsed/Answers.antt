-- Each kind has its payload's form.
use mathlib.Core.Path.{refl, sym}
use Rattle.rules.specs.Payload.{parse}
use Rattle.payload.proofs.DomainLaws.{domain_not, release_means, domain-path_means, introduced_means}
use Rattle.payload.proofs.ParseLaws as laws
use Rattle.payload.proofs.parse.parsed.Goals as goal

pub returns-in-Directory : goal.returns-in-Directory
unfolding parse
returns-in-Directory c = laws.parsed _ _ _ _ _ c.in-Directory.is _ (c.plain.ensures tt) (λ d. refl)

pub returns-in-Read : goal.returns-in-Read
unfolding parse
returns-in-Read c = laws.parsed _ _ _ _ _ c.in-Read.is _ (c.plain-in-Read.ensures tt) (λ d. refl)

pub returns-in-GetPerms : goal.returns-in-GetPerms
unfolding parse
returns-in-GetPerms c = laws.parsed _ _ _ _ _ c.in-GetPerms.is _ (c.plain-in-GetPerms.ensures tt) (λ d. refl)

pub returns-in-Watch : goal.returns-in-Watch
unfolding parse
returns-in-Watch c = laws.parsed _ _ _ _ _ c.in-Watch.is _ c.watch.ensures (λ d. refl)

pub returns-in-Unwatch : goal.returns-in-Unwatch
unfolding parse
returns-in-Unwatch c = laws.parsed _ _ _ _ _ c.in-Unwatch.is _ c.unwatch.ensures (λ d. refl)

pub returns-in-Start : goal.returns-in-Start
unfolding parse
returns-in-Start c = laws.parsed _ _ _ _ _ c.in-Start.is _ c.start.ensures (λ d. refl)

pub returns-in-End : goal.returns-in-End
unfolding parse
returns-in-End c = laws.parsed _ _ _ _ _ c.in-End.is _ c.end.ensures (λ d. refl)

pub returns-in-Introduce : goal.returns-in-Introduce
unfolding parse
returns-in-Introduce c = laws.parsed _ _ _ _ _ c.in-Introduce.is _ c.introduce.ensures (λ d. refl)

pub returns-in_err-domain_alone-in-Release : goal.returns-in_err-domain_alone-in-Release
unfolding parse
returns-in_err-domain_alone-in-Release c =
    rw c.from_residual.ensures
    (laws.parsed _ _ _ _ _ c.in-Release.is _ (domain_not _ _ _ (sym c.in_err-domain_alone-in-Release.ensures)) (λ d. refl))

pub returns-in_ok-domain_alone-in-Release : goal.returns-in_ok-domain_alone-in-Release
unfolding parse
returns-in_ok-domain_alone-in-Release c =
    laws.parsed _ _ _ _ _ c.in-Release.is _ (release_means _ _ (sym c.in_ok-domain_alone-in-Release.ensures)) (λ d. refl)

pub returns-in_err-domain_alone-in-DomainPath : goal.returns-in_err-domain_alone-in-DomainPath
unfolding parse
returns-in_err-domain_alone-in-DomainPath c =
    rw c.from_residual-in_err-domain_alone-in-DomainPath.ensures
    (laws.parsed _ _ _ _ _ c.in-DomainPath.is _ (domain_not _ _ _ (sym c.in_err-domain_alone-in-DomainPath.ensures)) (λ d. refl))

pub returns-in_ok-domain_alone-in-DomainPath : goal.returns-in_ok-domain_alone-in-DomainPath
unfolding parse
returns-in_ok-domain_alone-in-DomainPath c =
    laws.parsed _ _ _ _ _ c.in-DomainPath.is _ (domain-path_means _ _ (sym c.in_ok-domain_alone-in-DomainPath.ensures)) (λ d. refl)

pub returns-in-Write : goal.returns-in-Write
unfolding parse
returns-in-Write c = laws.parsed _ _ _ _ _ c.in-Write.is _ c.write.ensures (λ d. refl)

pub returns-in-Mkdir : goal.returns-in-Mkdir
unfolding parse
returns-in-Mkdir c = laws.parsed _ _ _ _ _ c.in-Mkdir.is _ (c.plain-in-Mkdir.ensures tt) (λ d. refl)

pub returns-in-Rm : goal.returns-in-Rm
unfolding parse
returns-in-Rm c = laws.parsed _ _ _ _ _ c.in-Rm.is _ (c.plain-in-Rm.ensures tt) (λ d. refl)

pub returns-in-SetPerms : goal.returns-in-SetPerms
unfolding parse
returns-in-SetPerms c = laws.parsed_kept _ _ _ _ _ c.in-SetPerms.is _ c.set_perms.ensures (λ d. refl)

pub returns-in_err-domain_alone-in-IsIntroduced : goal.returns-in_err-domain_alone-in-IsIntroduced
unfolding parse
returns-in_err-domain_alone-in-IsIntroduced c =
    rw c.from_residual-in_err-domain_alone-in-IsIntroduced.ensures
    (laws.parsed _ _ _ _ _ c.in-IsIntroduced.is _ (domain_not _ _ _ (sym c.in_err-domain_alone-in-IsIntroduced.ensures)) (λ d. refl))

pub returns-in_ok-domain_alone-in-IsIntroduced : goal.returns-in_ok-domain_alone-in-IsIntroduced
unfolding parse
returns-in_ok-domain_alone-in-IsIntroduced c =
    laws.parsed _ _ _ _ _ c.in-IsIntroduced.is _ (introduced_means _ _ (sym c.in_ok-domain_alone-in-IsIntroduced.ensures)) (λ d. refl)

pub returns-in-Reset : goal.returns-in-Reset
unfolding parse
returns-in-Reset c = laws.parsed _ _ _ _ _ c.in-Reset.is _ c.reset.ensures (λ d. refl)
