mod AsWorld
mod AsEnd
mod Options
mod Steps
