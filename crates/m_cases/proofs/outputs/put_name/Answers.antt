use Rattle.m_cases.proofs.Found.{put_again, put_new}
use Rattle.m_cases.proofs.outputs.put_name.Goals as goal

pub returns-then-not-branch : goal.returns-then-not-branch
returns-then-not-branch c = λ names long finds.
    put_again names c.args.known.now c.add.new.self c.args.places.now.items c.args.name.now c.in_ok-add.field-0 c.in_ok-add.ensures.fresh
    c.in_ok-add.ensures.added c.if-not-branch.true finds

pub returns : goal.returns
returns c = λ names long finds.
    put_new names c.args.known.now c.add.new.self c.args.places.now.items c.push.new.self.items c.args.name.now c.args.place c.in_ok-add.field-0
    c.in_ok-add.ensures.added c.if-not-branch.false c.in_ok-push.ensures.items
    long finds
