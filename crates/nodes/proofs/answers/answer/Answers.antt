-- Each kind is answered by its own function, and what is asked is what that kind means.
use mathlib.Core.Path.{subst}
use Rattle.payload.specs.Meaning.{AskSound}
use Rattle.payload.specs.declared.answer.Ask.TheVariants.{Directory, Read, GetPerms, Mkdir, Rm, SetPerms}
use Rattle.nodes.proofs.Outcomes.{answered_as, written_as}
use Rattle.nodes.proofs.answers.answer.Goals as goal

pub slice_bounds-write-count : goal.slice_bounds-write-count
slice_bounds-write-count c =
    subst (AskSound c.args.s.now) c.in-Write.is c.requires.1

pub slice_bounds-write-start : goal.slice_bounds-write-start
slice_bounds-write-start c =
    subst (AskSound c.args.s.now) c.in-Write.is c.requires.1

pub set_perms-requires : goal.set_perms-requires
set_perms-requires c =
    (c.requires.0, subst (AskSound c.args.s.now) c.in-SetPerms.is c.requires.1)

pub returns-in-Directory : goal.returns-in-Directory
returns-in-Directory c =
    answered_as _ c.args.s.now _ c.args.t.now _ c.args.reply.now _ _ _ Directory c.in-Directory.is
    c.directory.ensures

pub returns-in-Read : goal.returns-in-Read
returns-in-Read c =
    answered_as _ c.args.s.now _ c.args.t.now _ c.args.reply.now _ _ _ Read c.in-Read.is
    c.read.ensures

pub returns-in-GetPerms : goal.returns-in-GetPerms
returns-in-GetPerms c =
    answered_as _ c.args.s.now _ c.args.t.now _ c.args.reply.now _ _ _ GetPerms c.in-GetPerms.is
    c.get_perms.ensures

pub returns-in-Write : goal.returns-in-Write
returns-in-Write c =
    written_as _ c.args.s.now _ c.args.t.now _ c.args.reply.now _ _ _ _ c.in-Write.is
    c.write.ensures

pub returns-in-Mkdir : goal.returns-in-Mkdir
returns-in-Mkdir c =
    answered_as _ c.args.s.now _ c.args.t.now _ c.args.reply.now _ _ _ Mkdir c.in-Mkdir.is
    c.mkdir.ensures

pub returns-in-Rm : goal.returns-in-Rm
returns-in-Rm c =
    answered_as _ c.args.s.now _ c.args.t.now _ c.args.reply.now _ _ _ Rm c.in-Rm.is
    c.rm.ensures

pub returns-in-SetPerms : goal.returns-in-SetPerms
returns-in-SetPerms c =
    answered_as _ c.args.s.now _ c.args.t.now _ c.args.reply.now _ _ _ (SetPerms _) c.in-SetPerms.is
    c.set_perms.ensures
